-- The words of a content, part by part.
use mathlib.Core.Path.{◌≡◌, refl, sym, ◌∙◌, ap, ap₂}
use Prim.Native.Nat.{ℕ, zero, suc, ◌+◌, ◌-◌, ◌*◌, ◌/◌, ◌%◌, ◌^◌, ◌≤◌, ◌<◌}
use native.Mathlib.Omega.{arith}
use mathlib.Core.Bool.{Bool, true, false, cond}
use mathlib.Core.List.{List, [], ◌∷◌}
use lib.Dec.{eqb, ltb}
use lib.ListN.{length, get_or, set}
use lib.Seq.{ext_get_or, get_or-set_other}
use lib.Ieee.{Float, binary64, to_bits}
use borrow.Rule.Slice.PartMut.{put_mid}
use borrow.Author.Tests.{lt-ltb, le-ltb, ltb-true, ltb-false}
use Rattle.triple.specs.declared.Triple.{Triple}
use Rattle.triple.specs.Nine.{at}
use Rattle.blocks.specs.Rows.{row, filled, filled_from}
use Rattle.blocks.proofs.Filled.{length_row, at_row, length_filled, at_filled, filled_on}
use Rattle.stored.specs.declared.layout.Uses.{Uses}
use Rattle.stored.specs.Layout.{used, component, float_no}
use Rattle.stored.specs.Content.{half, float_word, content_word, content_from}

-- ---- what is filled up to n is the whole row where the rest stands already
module _ {A : Type 0} where
  past_filled : (f : ℕ → A) (n : ℕ) (l : List A) (i : ℕ) (d : A) → n ≤ i → get_or (filled f n l) i d ≡ get_or l i d
  unfolding filled
  past_filled f zero l i d h = refl
  past_filled f (suc n) l i d h = get_or-set_other (filled f n l) n i (f n) d (λ (z : i ≡ n). omega arith) ∙ past_filled f n l i d (omega arith)

  filled_rest : (f : ℕ → A) (n m : ℕ) (l : List A) (d : A) → length l ≡ m → n ≤ m → ((i : ℕ) → n ≤ i → i < m → get_or l i d ≡ f i) → filled f n l ≡ row f m
  filled_rest f n m l d e k rest =
      ext_get_or d _ _ (length_filled f n l ∙ e ∙ sym (length_row f m))
      (λ (i : ℕ) (h : i < length (filled f n l)).
      let b : i < m = omega (arith, length_filled f n l) in go i b (ltb i n) refl ∙ sym (at_row f m i d b))
    where
      go : (i : ℕ) → i < m → (x : Bool) → ltb i n ≡ x → get_or (filled f n l) i d ≡ f i
      go i b true q = at_filled f n l i d (omega arith) (ltb-true _ _ q)
      go i b false q = let j : n ≤ i = ltb-false _ _ q in past_filled f n l i d j ∙ rest i j b

  -- six values more, from value i + m on
  pub six_more : (f : ℕ → A) (i m k : ℕ) (l : List A) → i + m ≡ k
      → filled_from f i (m + 6) l
      ≡ set (set (set (set (set (set (filled_from f i m l) k (f k)) (k + 1) (f (k + 1))) (k + 2) (f (k + 2))) (k + 3) (f (k + 3))) (k + 4) (f (k + 4))) (k + 5) (f (k + 5))
  unfolding filled_from
  six_more f i m k l h =
      let z : m + 6 ≡ suc (suc (suc (suc (suc (suc m))))) = omega arith in
      let a : i + suc m ≡ k + 1 = omega arith in
      let b : i + suc (suc m) ≡ k + 2 = omega arith in
      let c : i + suc (suc (suc m)) ≡ k + 3 = omega arith in
      let d : i + suc (suc (suc (suc m))) ≡ k + 4 = omega arith in
      let e : i + suc (suc (suc (suc (suc m)))) ≡ k + 5 = omega arith in
      ap (λ (n : ℕ). filled_from f i n l) z ∙ (rw (h, a, b, c, d, e))

  same_from : (f g : ℕ → A) (i n : ℕ) (l : List A) → ((j : ℕ) → i ≤ j → j < i + n → f j ≡ g j) → filled_from f i n l ≡ filled_from g i n l
  unfolding filled_from
  same_from f g i zero l h = refl
  same_from f g i (suc n) l h =
      ap₂ (λ (x : List A) (y : A). set x (i + n) y) (same_from f g i n l (λ (j : ℕ) (a : i ≤ j) (b : j < i + n). h j a (omega arith))) (h (i + n) (omega arith) (omega arith))

  -- one place on, in both
  on_one : (f : ℕ → A) (i n : ℕ) (x : A) (l : List A) → filled_from f (suc i) n (x ∷ l) ≡ x ∷ filled_from (λ (j : ℕ). f (suc j)) i n l
  unfolding filled_from
  on_one f i zero x l = refl
  on_one f i (suc n) x l = let e : suc i + n ≡ suc (i + n) = omega arith in rw e (ap (λ (y : List A). set y (suc (i + n)) (f (suc (i + n)))) (on_one f i n x l))

  from_first : (f : ℕ → A) (n : ℕ) (x : A) (l : List A) → filled_from f 0 (suc n) (x ∷ l) ≡ f 0 ∷ filled_from (λ (j : ℕ). f (suc j)) 0 n l
  unfolding filled_from
  from_first f zero x l = refl
  from_first f (suc n) x l = let e : 0 + suc n ≡ suc (0 + n) = omega arith in rw e (ap (λ (y : List A). set y (suc (0 + n)) (f (suc (0 + n)))) (from_first f n x l))

  -- values written all at once
  pub put_filled : (d : A) (i n : ℕ) (l ys : List A) → length ys ≡ n → i + n ≤ length l → (f : ℕ → A) → ((j : ℕ) → f (i + j) ≡ get_or ys j d) → put_mid i n l ys ≡ filled_from f i n l
  unfolding filled_from
  put_filled d (suc i) n [] ys e h f k = absurd (omega arith)
  put_filled d (suc i) n (x ∷ l) ys e h f k =
      ap (λ (t : List A). x ∷ t) (put_filled d i n l ys e (omega arith) (λ (j : ℕ). f (suc j)) (λ (j : ℕ). let z : suc (i + j) ≡ suc i + j = omega arith in ap f z ∙ k j))
      ∙ sym (on_one f i n x l)
  put_filled d zero zero l [] e h f k = refl
  put_filled d zero zero l (y ∷ ys) e h f k = absurd (omega arith)
  put_filled d zero (suc n) l [] e h f k = absurd (omega arith)
  put_filled d zero (suc n) [] (y ∷ ys) e h f k = absurd (omega arith)
  put_filled d zero (suc n) (x ∷ l) (y ∷ ys) e h f k =
      ap₂ (λ (a : A) (t : List A). a ∷ t) (sym (k 0)) (put_filled d zero n l ys (omega arith) (omega arith) (λ (j : ℕ). f (suc j)) (λ (j : ℕ). let z : suc (0 + j) ≡ 0 + suc j = omega arith in ap f z ∙ k (suc j)))
      ∙ sym (from_first f n x l)

-- word r of component i of triple q
pub triple_word : (u : Uses) (ts : List Triple) (q i r : ℕ) → i < 3 → r < 2
    → float_word u ts (6 * q + (2 * i + r)) ≡ half (cond (used u (3 * q + i)) (to_bits binary64 (component (at ts q) i)) 0) r
unfolding float_word float_no
triple_word u ts q i r hi hr =
    let a : (6 * q + (2 * i + r)) / 2 ≡ 3 * q + i = omega arith in
    let b : (6 * q + (2 * i + r)) % 2 ≡ r = omega arith in
    let c : (3 * q + i) / 3 ≡ q = omega arith in
    let d : (3 * q + i) % 3 ≡ i = omega arith in
    rw (a, b, c, d) (go (used u (3 * q + i)))
  where
    nothing : (e : Bool) → 0 ≡ cond e (0 % 2 ^ 32) (0 / 2 ^ 32)
    nothing true = refl
    nothing false = refl

    go : (x : Bool) → cond x (half (to_bits binary64 (component (at ts q) i)) r) 0 ≡ half (cond x (to_bits binary64 (component (at ts q) i)) 0) r
    go true = refl
    go false = unfold half in nothing (eqb r 0)

-- the words of one more triple
abbrev kept : Bool → Float → ℕ
kept d x = cond d (to_bits binary64 x) 0

pub six_floats : (u : Uses) (ts : List Triple) (q : ℕ) (l : List ℕ)
    → filled_from (λ (j : ℕ). float_word u ts (j - 6)) 6 (6 * (q + 1)) l
    ≡ set (set (set (set (set (set (filled_from (λ (j : ℕ). float_word u ts (j - 6)) 6 (6 * q) l)
    (6 * q + 6) (half (kept (used u (3 * q)) (at ts q).x) 0))
    (6 * q + 7) (half (kept (used u (3 * q)) (at ts q).x) 1))
    (6 * q + 8) (half (kept (used u (3 * q + 1)) (at ts q).y) 0))
    (6 * q + 9) (half (kept (used u (3 * q + 1)) (at ts q).y) 1))
    (6 * q + 10) (half (kept (used u (3 * q + 2)) (at ts q).z) 0))
    (6 * q + 11) (half (kept (used u (3 * q + 2)) (at ts q).z) 1)
unfolding component
six_floats u ts q l =
    let n : 6 * (q + 1) ≡ 6 * q + 6 = omega arith in
    let a : 3 * q + 0 ≡ 3 * q = omega arith in
    let b : 6 * q + 6 + 1 ≡ 6 * q + 7 = omega arith in
    let c : 6 * q + 6 + 2 ≡ 6 * q + 8 = omega arith in
    let d : 6 * q + 6 + 3 ≡ 6 * q + 9 = omega arith in
    let e : 6 * q + 6 + 4 ≡ 6 * q + 10 = omega arith in
    let g : 6 * q + 6 + 5 ≡ 6 * q + 11 = omega arith in
    ap (λ (m : ℕ). filled_from (λ (j : ℕ). float_word u ts (j - 6)) 6 m l) n
    ∙ six_more (λ (j : ℕ). float_word u ts (j - 6)) 6 (6 * q) (6 * q + 6) l (omega arith)
    ∙ (rw (b, c, d, e, g)
    (rw (word 0 0 (6 * q + 6) (omega arith) (omega arith) (omega arith), word 0 1 (6 * q + 7) (omega arith) (omega arith) (omega arith), word 1 0 (6 * q + 8) (omega arith) (omega arith) (omega arith), word 1 1 (6 * q + 9) (omega arith) (omega arith) (omega arith), word 2 0 (6 * q + 10) (omega arith) (omega arith) (omega arith), word 2 1 (6 * q + 11) (omega arith) (omega arith) (omega arith), a)))
  where
    word : (i r k : ℕ) → i < 3 → r < 2 → k ≡ 6 * q + (2 * i + r) + 6 → float_word u ts (k - 6) ≡ half (cond (used u (3 * q + i)) (to_bits binary64 (component (at ts q) i)) 0) r
    word i r k hi hr e = ap (float_word u ts) (omega arith) ∙ triple_word u ts q i r hi hr

-- ---- the parts
module _ (head : List ℕ) (u : Uses) (ts : List Triple) (counts : List ℕ) where
  pub head_part : (j : ℕ) → j < 6 → content_word head u ts counts j ≡ get_or head j 0
  unfolding content_word
  head_part j h = rw (lt-ltb j 6 h)

  pub float_part : (j : ℕ) → j < 246 → content_word head u ts counts (6 + j) ≡ float_word u ts j
  unfolding content_word
  float_part j h = rw (le-ltb (6 + j) 6 (omega arith), lt-ltb (6 + j) 252 (omega arith)) (ap (float_word u ts) (omega arith))

  pub count_part : (i : ℕ) → i < 6 → content_word head u ts counts (252 + i) ≡ get_or counts i 0
  unfolding content_word
  count_part i h =
      rw (le-ltb (252 + i) 6 (omega arith), le-ltb (252 + i) 252 (omega arith), lt-ltb (252 + i) 258 (omega arith)) (ap (λ (n : ℕ). get_or counts n 0) (omega arith))

  pub rest_part : (j : ℕ) → 258 ≤ j → content_word head u ts counts j ≡ 0
  unfolding content_word
  rest_part j h = rw (le-ltb j 6 (omega arith), le-ltb j 252 (omega arith), le-ltb j 258 h)

  -- the head, the floats and the counts over zeros
  abbrev f : ℕ → ℕ
  f = content_word head u ts counts

  pub all_parts : (l : List ℕ) → length l ≡ 504 → ((i : ℕ) → i < 504 → get_or l i 0 ≡ 0)
      → filled_from (λ (j : ℕ). get_or counts (j - 252) 0) 252 6 (filled_from (λ (j : ℕ). float_word u ts (j - 6)) 6 246 (filled_from (λ (j : ℕ). get_or head j 0) 0 6 l))
      ≡ content_from head u ts counts
  unfolding content_from filled
  all_parts l e z =
      ap (λ (x : List ℕ). filled_from (λ (j : ℕ). get_or counts (j - 252) 0) 252 6 (filled_from (λ (j : ℕ). float_word u ts (j - 6)) 6 246 x))
      (same_from (λ (j : ℕ). get_or head j 0) f 0 6 l (λ (j : ℕ) (a : 0 ≤ j) (b : j < 6). sym (head_part j b)) ∙ filled_on f 0 6 l)
      ∙ ap (filled_from (λ (j : ℕ). get_or counts (j - 252) 0) 252 6) (same_from (λ (j : ℕ). float_word u ts (j - 6)) f 6 246 (filled f 6 l) floats ∙ filled_on f 6 246 l)
      ∙ same_from (λ (j : ℕ). get_or counts (j - 252) 0) f 252 6 (filled f 252 l) numbers
      ∙ filled_on f 252 6 l
      ∙ filled_rest f 258 504 l 0 e (omega arith) (λ (i : ℕ) (h : 258 ≤ i) (b : i < 504). z i b ∙ sym (rest_part i h))
    where
      floats : (j : ℕ) → 6 ≤ j → j < 6 + 246 → float_word u ts (j - 6) ≡ content_word head u ts counts j
      floats j a b = sym (float_part (j - 6) (omega arith)) ∙ ap (content_word head u ts counts) (omega arith)

      numbers : (j : ℕ) → 252 ≤ j → j < 252 + 6 → get_or counts (j - 252) 0 ≡ content_word head u ts counts j
      numbers j a b = sym (count_part (j - 252) (omega arith)) ∙ ap (content_word head u ts counts) (omega arith)
