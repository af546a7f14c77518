-- The words of a content, whatever its parts are: what is read from them again.
use mathlib.Core.Path.{◌≡◌, refl, sym, ◌∙◌, ap, ap₂}
use Prim.Native.Nat.{ℕ, zero, suc, ◌+◌, ◌-◌, ◌*◌, ◌/◌, ◌%◌, ◌^◌, ◌≤◌, ◌<◌}
use native.Mathlib.Omega.{arith}
use mathlib.Core.Bool.{Bool, true, false, ◌||◌, cond}
use mathlib.Core.List.{List}
use lib.Dec.{T, eqb, ltb}
use lib.ListN.{get_or, get_or-eq_default}
use lib.Ieee.{binary64, fits, to_bits, of_bits}
use lib.Ieee.Bits.{of_bits-to_bits, to_bits-lt}
use borrow.Author.Tests.{eq-eqb, eqb-true, ltb-true, ltb-false}
use Rattle.triple.specs.declared.Triple.{Triple}
use Rattle.triple.specs.Arithmetic.{nought}
use Rattle.blocks.specs.Rows.{row}
use Rattle.blocks.specs.Trips.{Below}
use Rattle.blocks.proofs.Filled.{length_row, at_row}
use Rattle.blocks.proofs.Whole.{apart}
use Rattle.stored.specs.declared.layout.Uses.{Uses}
use Rattle.stored.specs.Layout.{used, float_no}
use Rattle.stored.specs.Content.{half, float_word, content_word, content_from}
use Rattle.stored.specs.Taken.{float_at, word_used, still_zero, unused_is_zero}
use Rattle.stored.specs.Trips.{kept_float}
use Rattle.stored.proofs.Parts.{head_part, float_part, count_part}

module _ (head : List ℕ) (u : Uses) (ts : List Triple) (counts : List ℕ) where
  abbrev content : List ℕ
  content = content_from head u ts counts

  word : (j : ℕ) → j < 504 → get_or content j 0 ≡ content_word head u ts counts j
  unfolding content_from
  word j h = at_row (content_word head u ts counts) 504 j 0 h

  pub head_at : (j : ℕ) → j < 6 → get_or content j 0 ≡ get_or head j 0
  head_at j h = word j (omega arith) ∙ head_part head u ts counts j h

  pub count_at : (i : ℕ) → i < 6 → get_or content (252 + i) 0 ≡ get_or counts i 0
  count_at i h = word (252 + i) (omega arith) ∙ count_part head u ts counts i h

  pub float_at_lem : (j : ℕ) → j < 246 → get_or content (6 + j) 0 ≡ float_word u ts j
  float_at_lem j h = word (6 + j) (omega arith) ∙ float_part head u ts counts j h

  -- what is not used is zero
  pub zero_word : get_or head 2 0 ≡ cond u.index (get_or head 2 0) 0 → get_or head 3 0 ≡ cond u.stage (get_or head 3 0) 0
      → (j : ℕ) → j < 504 → word_used u j ≡ false → get_or content j 0 ≡ 0
  unfolding word_used content_word float_word
  zero_word hi hs j h f = word j h ∙ go (eqb j 2) (eqb j 3) (ltb j 6) (ltb j 252) (ltb j 258) refl refl refl refl refl f
    where
      go : (a b c d e : Bool) → eqb j 2 ≡ a → eqb j 3 ≡ b → ltb j 6 ≡ c → ltb j 252 ≡ d → ltb j 258 ≡ e
          → cond a u.index (cond b u.stage (cond c true (cond d (used u ((j - 6) / 2)) e))) ≡ false
          → cond (ltb j 6) (get_or head j 0) (cond (ltb j 252) (cond (used u ((j - 6) / 2)) (half (to_bits binary64 (float_no ts ((j - 6) / 2))) ((j - 6) % 2)) 0) (cond (ltb j 258) (get_or counts (j - 252) 0) 0)) ≡ 0
      go true b c d e pa pb pc pd pe q = let z : j ≡ 2 = eqb-true _ _ pa in rw z (hi ∙ ap (λ (x : Bool). cond x (get_or head 2 0) 0) q)
      go false true c d e pa pb pc pd pe q = let z : j ≡ 3 = eqb-true _ _ pb in rw z (hs ∙ ap (λ (x : Bool). cond x (get_or head 3 0) 0) q)
      go false false true d e pa pb pc pd pe q = apart (sym q)
      go false false false true e pa pb pc pd pe q = rw (pc, pd, q)
      go false false false false e pa pb pc pd pe q = rw (pc, pd, pe ∙ q)

  -- float k is the run's, or zero
  pub float_is : (k : ℕ) → k < 123 → T (fits binary64 (float_no ts k)) → float_at content k ≡ kept_float u ts k
  unfolding float_at kept_float float_word half
  float_is k h fit =
      ap₂ (λ (a b : ℕ). of_bits binary64 (a + 2 ^ 32 * b)) (float_at_lem (2 * k) (omega arith)) (ap (λ (n : ℕ). get_or content n 0) (omega arith) ∙ float_at_lem (2 * k + 1) (omega arith))
      ∙ (let a : 2 * k / 2 ≡ k = omega arith in
      let b : (2 * k + 1) / 2 ≡ k = omega arith in
      let c : 2 * k % 2 ≡ 0 = omega arith in
      let d : (2 * k + 1) % 2 ≡ 1 = omega arith in
      rw (a, b, c, d) (go (used u k)))
    where
      bits : ℕ
      bits = to_bits binary64 (float_no ts k)

      go : (d : Bool) → of_bits binary64 (cond d (to_bits binary64 (float_no ts k) % 2 ^ 32) 0 + 2 ^ 32 * cond d (to_bits binary64 (float_no ts k) / 2 ^ 32) 0) ≡ cond d (float_no ts k) nought
      go true = ap (of_bits binary64) (omega arith) ∙ of_bits-to_bits binary64 (float_no ts k) fit
      go false = unfold of_bits in refl

  float_small : (j : ℕ) → T (fits binary64 (float_no ts (j / 2))) → float_word u ts j < 2 ^ 32
  unfolding float_word half
  float_small j fit = go (used u (j / 2)) (eqb (j % 2) 0)
    where
      small : to_bits binary64 (float_no ts (j / 2)) < 2 ^ 64
      small = to_bits-lt binary64 (float_no ts (j / 2)) fit

      go : (d e : Bool) → cond d (cond e (to_bits binary64 (float_no ts (j / 2)) % 2 ^ 32) (to_bits binary64 (float_no ts (j / 2)) / 2 ^ 32)) 0 < 2 ^ 32
      go true true = omega arith
      go true false = omega (arith, small)
      go false e = omega arith

  pub small_words : ((j : ℕ) → j < 6 → get_or head j 0 < 2 ^ 32) → ((k : ℕ) → k < 123 → T (fits binary64 (float_no ts k))) → ((i : ℕ) → i < 6 → get_or counts i 0 < 2 ^ 32)
      → Below (2 ^ 32) content
  unfolding content_from
  small_words heads floats nums i = go (ltb i 504) (ltb i 6) (ltb i 252) (ltb i 258) refl refl refl refl
    where
      go : (a b c d : Bool) → ltb i 504 ≡ a → ltb i 6 ≡ b → ltb i 252 ≡ c → ltb i 258 ≡ d → get_or content i 0 < 2 ^ 32
      go false b c d pa pb pc pd =
          let h : 504 ≤ i = ltb-false _ _ pa in
          rw (get_or-eq_default (row (content_word head u ts counts) 504) 0 {n = i} (omega (arith, length_row (content_word head u ts counts) 504))) (omega arith)
      go true true c d pa pb pc pd = rw (head_at i (ltb-true _ _ pb)) (heads i (ltb-true _ _ pb))
      go true false true d pa pb pc pd =
          let l : 6 ≤ i = ltb-false _ _ pb in
          let h : i < 252 = ltb-true _ _ pc in
          let e : i ≡ 6 + (i - 6) = omega arith in
          rw (ap (λ (n : ℕ). get_or content n 0) e ∙ float_at_lem (i - 6) (omega arith)) (float_small (i - 6) (floats ((i - 6) / 2) (omega arith)))
      go true false false true pa pb pc pd =
          let l : 252 ≤ i = ltb-false _ _ pc in
          let h : i < 258 = ltb-true _ _ pd in
          let e : i ≡ 252 + (i - 252) = omega arith in
          rw (ap (λ (n : ℕ). get_or content n 0) e ∙ count_at (i - 252) (omega arith)) (nums (i - 252) (omega arith))
      go true false false false pa pb pc pd = rw (word i (ltb-true _ _ pa)) (unfold content_word in rw (pb, pc, pd) (omega arith))

-- ---- all that is not used is zero
pub all_zero : (c : List ℕ) (u : Uses) → ((j : ℕ) → j < 504 → word_used u j ≡ false → get_or c j 0 ≡ 0) → (n : ℕ) → n ≤ 504 → unused_is_zero c u n ≡ true
unfolding unused_is_zero still_zero
all_zero c u z zero h = refl
all_zero c u z (suc n) h = rw (all_zero c u z n (omega arith)) (go (word_used u n) refl)
  where
    go : (d : Bool) → word_used u n ≡ d → (d || eqb (get_or c n 0) 0) ≡ true
    go true e = refl
    go false e = eq-eqb _ _ (z n (omega arith) e)
