-- Which words a waiting point leaves unused, part by part, as the code goes through them.
use mathlib.Core.Path.{◌≡◌, refl, sym, ◌∙◌, ap, ap₂}
use Prim.Native.Nat.{ℕ, zero, suc, ◌+◌, ◌-◌, ◌*◌, ◌/◌, ◌≤◌, ◌<◌}
use native.Mathlib.Omega.{arith}
use mathlib.Core.Bool.{Bool, true, false}
use mathlib.Core.List.{List}
use lib.ListN.{length, get_or, take, drop}
use Rattle.std.proofs.Common.{length-drop}
use lib.Seq.{length-take-le}
use Rattle.std.proofs.lemmas.List.{get_or-take, get_or-drop}
use borrow.Author.Tests.{ne_eqb, lt-ltb, le-ltb}
use Rattle.stored.specs.declared.layout.Uses.{Uses}
use Rattle.stored.specs.Layout.{triple_used, used}
use Rattle.stored.specs.Taken.{word_used, still_zero, unused_is_zero}
use Rattle.stored.specs.Unused.{six_zero, middle_zero}

-- a word that is used changes nothing
pub used_passes : (z : Bool) (w : ℕ) → still_zero z true w ≡ z
unfolding still_zero
used_passes true w = refl
used_passes false w = refl

pub float_used : (u : Uses) (j : ℕ) → 6 ≤ j → j < 252 → word_used u j ≡ used u ((j - 6) / 2)
unfolding word_used
float_used u j l h = rw (ne_eqb j 2 (λ (z : j ≡ 2). omega arith), ne_eqb j 3 (λ (z : j ≡ 3). omega arith), le-ltb j 6 l, lt-ltb j 252 h)

pub rest_unused : (u : Uses) (j : ℕ) → 258 ≤ j → word_used u j ≡ false
unfolding word_used
rest_unused u j h =
    rw (ne_eqb j 2 (λ (z : j ≡ 2). omega arith), ne_eqb j 3 (λ (z : j ≡ 3). omega arith), le-ltb j 6 (omega arith), le-ltb j 252 (omega arith)) (le-ltb j 258 h)

module _ (c : List ℕ) where
  -- the words after the counts
  pub rest_long : length c ≡ 504 → length (take 246 (drop 258 c)) ≡ 246
  rest_long h = omega (arith, length-take-le {A = ℕ}, length-drop {A = ℕ})

  pub rest_word : (n : ℕ) → n < 246 → get_or (take 246 (drop 258 c)) n 0 ≡ get_or c (n + 258) 0
  rest_word n h = let e : 258 + n ≡ n + 258 = omega arith in rw (get_or-take 246 (drop 258 c) n 0 h, get_or-drop 258 c n 0, e) refl

  -- the first n words after the counts are zero, and z
  unfoldable pub rest_zero : (z : Bool) (n : ℕ) → Bool
  rest_zero z zero = z
  rest_zero z (suc n) = still_zero (rest_zero z n) false (get_or c (n + 258) 0)

module _ (c : List ℕ) (u : Uses) where
  -- the head: of its six words the third and the fourth may be unused
  pub head_zero : unused_is_zero c u 6 ≡ still_zero (still_zero true u.index (get_or c 2 0)) u.stage (get_or c 3 0)
  unfolding unused_is_zero word_used
  head_zero =
      used_passes _ (get_or c 5 0)
      ∙ used_passes _ (get_or c 4 0)
      ∙ ap (λ (z : Bool). still_zero (still_zero z u.index (get_or c 2 0)) u.stage (get_or c 3 0)) (used_passes _ (get_or c 1 0) ∙ used_passes true (get_or c 0 0))

  one_more : (n : ℕ) → unused_is_zero c u (suc n) ≡ still_zero (unused_is_zero c u n) (word_used u n) (get_or c n 0)
  unfolding unused_is_zero
  one_more n = refl

  -- six words on: triple q, but for the one that is used by parts
  word_of : (q j r : ℕ) → q < 38 → r < 6 → j ≡ 6 * q + 6 + r → word_used u j ≡ triple_used u q
  unfolding used
  word_of q j r h b e =
      float_used u j (omega arith) (omega arith)
      ∙ (let k : (j - 6) / 2 / 3 ≡ q = omega arith in rw k (rw (ne_eqb q 38 (λ (z : q ≡ 38). omega arith))))

  pub triple_zero : (q : ℕ) → q < 38 → unused_is_zero c u (6 * (q + 1) + 6) ≡ six_zero c (6 * q + 6) (triple_used u q) (unused_is_zero c u (6 * q + 6))
  unfolding six_zero
  triple_zero q h =
      let n = 6 * q + 6 in
      let z : 6 * (q + 1) + 6 ≡ suc (suc (suc (suc (suc (suc n))))) = omega arith in
      let a : n + 1 ≡ suc n = omega arith in
      let b : n + 2 ≡ suc (suc n) = omega arith in
      let d : n + 3 ≡ suc (suc (suc n)) = omega arith in
      let e : n + 4 ≡ suc (suc (suc (suc n))) = omega arith in
      let f : n + 5 ≡ suc (suc (suc (suc (suc n)))) = omega arith in
      ap (unused_is_zero c u) z
      ∙ (rw (a, b, d, e, f) (rw (one_more (suc (suc (suc (suc (suc n))))), one_more (suc (suc (suc (suc n)))), one_more (suc (suc (suc n))), one_more (suc (suc n)), one_more (suc n), one_more n, word_of q n 0 h (omega arith) (omega arith), word_of q (suc n) 1 h (omega arith) (omega arith), word_of q (suc (suc n)) 2 h (omega arith) (omega arith), word_of q (suc (suc (suc n))) 3 h (omega arith) (omega arith), word_of q (suc (suc (suc (suc n)))) 4 h (omega arith) (omega arith), word_of q (suc (suc (suc (suc (suc n))))) 5 h (omega arith) (omega arith))))

  middle_zero_lem : unused_is_zero c u 240 ≡ middle_zero c u (unused_is_zero c u 234)
  unfolding unused_is_zero word_used used middle_zero
  middle_zero_lem = refl

  -- the last two triples are used
  pub floats_zero : unused_is_zero c u 252 ≡ middle_zero c u (unused_is_zero c u 234)
  unfolding unused_is_zero word_used used triple_used
  floats_zero =
      used_passes _ (get_or c 251 0)
      ∙ used_passes _ (get_or c 250 0)
      ∙ used_passes _ (get_or c 249 0)
      ∙ used_passes _ (get_or c 248 0)
      ∙ used_passes _ (get_or c 247 0)
      ∙ used_passes _ (get_or c 246 0)
      ∙ used_passes _ (get_or c 245 0)
      ∙ used_passes _ (get_or c 244 0)
      ∙ used_passes _ (get_or c 243 0)
      ∙ used_passes _ (get_or c 242 0)
      ∙ used_passes _ (get_or c 241 0)
      ∙ used_passes _ (get_or c 240 0)
      ∙ middle_zero_lem

  -- the counts are used
  pub counts_zero : unused_is_zero c u 258 ≡ unused_is_zero c u 252
  unfolding unused_is_zero word_used
  counts_zero =
      used_passes _ (get_or c 257 0)
      ∙ used_passes _ (get_or c 256 0)
      ∙ used_passes _ (get_or c 255 0)
      ∙ used_passes _ (get_or c 254 0)
      ∙ used_passes _ (get_or c 253 0)
      ∙ used_passes _ (get_or c 252 0)

  pub rest_zero_lem : (n : ℕ) → rest_zero c (unused_is_zero c u 252) n ≡ unused_is_zero c u (n + 258)
  unfolding rest_zero
  rest_zero_lem zero = sym counts_zero
  rest_zero_lem (suc n) =
      ap₂ (λ (z d : Bool). still_zero z d (get_or c (n + 258) 0)) (rest_zero_lem n) (sym (rest_unused u (n + 258) (omega arith)))
      ∙ sym (one_more (n + 258))
      ∙ ap (unused_is_zero c u) (omega arith)
