-- Nine lines read one after another.
use mathlib.Core.Path.{◌≡◌, refl, ◌∙◌, ap}
use mathlib.Core.Logic.{⊎_elim}
use Prim.Native.Nat.{ℕ, zero, suc, ◌+◌, ◌-◌, ◌*◌, ◌≤◌, ◌<◌}
use native.Mathlib.Nat.{eq-or-lt_of_le}
use native.Mathlib.Omega.{arith}
use mathlib.Core.Bool.{Bool, true, false, ◌&&◌, and-false}
use mathlib.Core.List.{List, [], ◌∷◌, ◌++◌}
use lib.Dec.{leb, eqb}
use lib.ListN.{length, get_or, take, drop, set, replicate, length-append, length-drop}
use lib.Seq.{drop-drop, get_or-drop, drop-append-le, take-append-le}
use borrow.Author.Tests.{leb-true, le-leb, eq-eqb, ne_eqb}
use Rattle.lines.specs.Put.{over}
use Rattle.lines.specs.Read.{are_digits, number_read, sixteen_from}
use Rattle.std.proofs.Common.{None, Some}
use Rattle.lines.proofs.Values.{is_number, is_no_number}
use Rattle.lines.specs.Nine.{begins_with_line, are_lines, patterns_of, ended, is_nine, read_nine}

-- ---- the length
pub other_length : (n : ℕ) (text : List ℕ) → (length text ≡ 17 * n → ⊥) → are_lines n text ≡ false
unfolding are_lines begins_with_line
other_length zero text h = ne_eqb (length text) 0 h
other_length (suc n) text h = by_length (leb 17 (length text)) refl (other_length n (drop 17 text))
  where
    by_length : (there : Bool) → leb 17 (length text) ≡ there → ((length (drop 17 text) ≡ 17 * n → ⊥) → are_lines n (drop 17 text) ≡ false) → are_lines (suc n) text ≡ false
    by_length true e rest =
        let s : 17 ≤ length text = leb-true 17 (length text) e in
        rw (rest (λ (z : length (drop 17 text) ≡ 17 * n). h (omega (arith, z, length-drop 17 text)))) (and-false (begins_with_line text))
    by_length false e rest = rw e refl

pub not_nine : (text : List ℕ) → is_nine text ≡ false → read_nine text ≡ None
unfolding read_nine
not_nine text e = rw e refl

pub is_nine_lem : (text : List ℕ) → is_nine text ≡ true → read_nine text ≡ Some (patterns_of 9 (ended text))
unfolding read_nine
is_nine_lem text e = rw e refl

pub too_long_or_short : (text : List ℕ) → (length text ≡ 152 → ⊥) → (length text ≡ 153 → ⊥) → is_nine text ≡ false
unfolding is_nine ended
too_long_or_short text h k = rw (ne_eqb (length text) 152 h) (other_length 9 text k)

-- ---- with its last newline
with_newline : (text : List ℕ) (j : ℕ) → get_or (text ++ (10 ∷ [])) j 10 ≡ get_or text j 10
with_newline [] zero = refl
with_newline [] (suc j) = refl
with_newline (x ∷ text) zero = refl
with_newline (x ∷ text) (suc j) = with_newline text j

module _ (text : List ℕ) (least : 152 ≤ length text) (most : length text ≤ 153) where
  -- of what holds with the newline and of what holds as it is
  both : (P : List ℕ → Type 0) → (length text ≡ 152 → P (text ++ (10 ∷ []))) → (length text ≡ 153 → P text) → P (ended text)
  unfolding ended
  both P short long =
      ⊎_elim
      (λ (e : length text ≡ 153). rw (ne_eqb (length text) 152 (λ (z : length text ≡ 152). omega arith)) (long e))
      (λ (s : length text < 153). let e : length text ≡ 152 = omega arith in rw (eq-eqb (length text) 152 e) (short e))
      (eq-or-lt_of_le most)

  length_ended : length (ended text) ≡ 153
  length_ended =
      both (λ (t : List ℕ). length t ≡ 153)
      (λ (e : length text ≡ 152). omega (arith, length-append text (10 ∷ [])))
      (λ (e : length text ≡ 153). e)

  at_ended : (j : ℕ) → get_or (ended text) j 10 ≡ get_or text j 10
  at_ended j =
      both (λ (t : List ℕ). get_or t j 10 ≡ get_or text j 10)
      (λ (e : length text ≡ 152). with_newline text j)
      (λ (e : length text ≡ 153). refl)

  sixteen_ended : (m : ℕ) → m + 16 ≤ 152 → take 16 (drop m (ended text)) ≡ sixteen_from m text
  unfolding sixteen_from
  sixteen_ended m h =
      both (λ (t : List ℕ). take 16 (drop m t) ≡ take 16 (drop m text))
      (λ (e : length text ≡ 152).
      let r : 16 ≤ length (drop m text) = omega (arith, length-drop m text) in
      ap (take 16) (drop-append-le m text (10 ∷ []) (omega arith)) ∙ take-append-le 16 (drop m text) (10 ∷ []) r)
      (λ (e : length text ≡ 153). refl)

  -- ---- line i
  module _ (i : ℕ) (h : i < 9) where
    line_is : begins_with_line (drop (17 * i) (ended text)) ≡ (are_digits (sixteen_from (17 * i) text) && eqb (get_or text (17 * i + 16) 10) 10)
    unfolding begins_with_line
    line_is =
        let r : 17 ≤ length (drop (17 * i) (ended text)) = omega (arith, length-drop (17 * i) (ended text), length_ended) in
        rw (le-leb _ _ r, sixteen_ended (17 * i) (omega arith), get_or-drop (17 * i) (ended text) 16 10, at_ended (17 * i + 16)) refl

    rest_is : drop 17 (drop (17 * i) (ended text)) ≡ drop (17 * (i + 1)) (ended text)
    rest_is = let e : 17 * i + 17 ≡ 17 * (i + 1) = omega arith in drop-drop 17 (17 * i) (ended text) ∙ ap (λ (k : ℕ). drop k (ended text)) e

    lines_are : are_lines (9 - i) (drop (17 * i) (ended text))
        ≡ ((are_digits (sixteen_from (17 * i) text) && eqb (get_or text (17 * i + 16) 10) 10) && are_lines (9 - (i + 1)) (drop (17 * (i + 1)) (ended text)))
    unfolding are_lines
    lines_are = let e : 9 - i ≡ suc (9 - (i + 1)) = omega arith in rw (e, line_is, rest_is) refl

    pub no_digits : number_read (sixteen_from (17 * i) text) ≡ None → are_lines (9 - i) (drop (17 * i) (ended text)) ≡ false
    no_digits e = lines_are ∙ rw (is_no_number _ e) refl

    pub no_end : eqb (get_or text (17 * i + 16) 10) 10 ≡ false → are_lines (9 - i) (drop (17 * i) (ended text)) ≡ false
    no_end d = lines_are ∙ rw (d, and-false) refl

    pub next_lines : (v : ℕ) → number_read (sixteen_from (17 * i) text) ≡ Some v → eqb (get_or text (17 * i + 16) 10) 10 ≡ true
        → are_lines (9 - i) (drop (17 * i) (ended text)) ≡ are_lines (9 - (i + 1)) (drop (17 * (i + 1)) (ended text))
    next_lines v e d = lines_are ∙ rw ((is_number _ v e).0, d) refl

    pub next_number : (v : ℕ) → number_read (sixteen_from (17 * i) text) ≡ Some v → (l : List ℕ)
        → over (i + 1) (patterns_of (9 - (i + 1)) (drop (17 * (i + 1)) (ended text))) (set l i v)
        ≡ over i (patterns_of (9 - i) (drop (17 * i) (ended text))) l
    unfolding over patterns_of
    next_number v e l =
        let s : 9 - i ≡ suc (9 - (i + 1)) = omega arith in
        let o : i + 1 ≡ suc i = omega arith in
        rw (s, rest_is, sixteen_ended (17 * i) (omega arith), (is_number _ v e).1, o) refl

-- ---- none and all of them
pub first_lines : (text : List ℕ) → is_nine text ≡ are_lines (9 - 0) (drop (17 * 0) (ended text))
unfolding is_nine
first_lines text = refl

pub first_numbers : (text : List ℕ) → over 0 (patterns_of (9 - 0) (drop (17 * 0) (ended text))) (replicate 9 0) ≡ patterns_of 9 (ended text)
unfolding over patterns_of
first_numbers text = refl

module _ (text : List ℕ) (least : 152 ≤ length text) (most : length text ≤ 153) (i : ℕ) (e : i ≡ 9) where
  pub no_line_left : are_lines (9 - i) (drop (17 * i) (ended text)) ≡ true
  unfolding are_lines
  no_line_left =
      let z : length (drop 153 (ended text)) ≡ 0 = omega (arith, length-drop 153 (ended text), length_ended text least most) in
      rw (e, z) refl

  pub all_numbers : (l : List ℕ) → l ≡ over i (patterns_of (9 - i) (drop (17 * i) (ended text))) l
  unfolding over patterns_of
  all_numbers l = rw e refl
