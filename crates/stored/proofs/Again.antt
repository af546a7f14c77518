-- "Storing a loaded form gives the same bytes": word for word, the content of a content's run is the content, but for the patterns of NaN.
use mathlib.Core.Path.{◌≡◌, refl, sym, ◌∙◌, ap}
use mathlib.Core.Logic.{⊎_elim}
use Prim.Native.Nat.{ℕ, zero, suc, ◌+◌, ◌-◌, ◌*◌, ◌/◌, ◌%◌, ◌^◌, ◌≤◌, ◌<◌}
use native.Mathlib.Nat.{eq-or-lt_of_le}
use native.Mathlib.Omega.{arith}
use mathlib.Core.Bool.{Bool, true, false, ◌&&◌, cond}
use mathlib.Core.List.{List}
use lib.Dec.{ltb, leb}
use lib.ListN.{length, get_or}
use lib.Ieee.{Float, nan, inf, fin, binary64, is_nan, to_bits, of_bits}
use lib.Ieee.Bits.{to_bits-of_bits}
use borrow.Author.Tests.{lt-ltb, lt-leb, le-leb, eqb-true, ltb-true, ltb-false}
use Rattle.triple.specs.declared.Triple.{Triple}
use Rattle.triple.proofs.Tests.{fails}
use Rattle.run.specs.Waiting.{waits_at}
use Rattle.blocks.specs.Rows.{row}
use Rattle.blocks.specs.Trips.{Below}
use Rattle.blocks.proofs.Filled.{at_row, same_row}
use Rattle.blocks.proofs.Whole.{apart}
use Rattle.stored.specs.declared.layout.Uses.{Uses}
use Rattle.stored.specs.Layout.{uses_of, used, triples_of, component, float_no}
use Rattle.stored.specs.Content.{head_of, counts_in, half, float_word, content_word, content_from, content_of_run}
use Rattle.stored.specs.Taken.{float_at, triple_at, triples_in, counts_at, body_from, run_of, word_used, still_zero, unused_is_zero}
use Rattle.stored.specs.Trips.{quiet_nan, is_nan_word, quiet_word, quieted}
use Rattle.stored.proofs.Known.{Known}
use Rattle.stored.proofs.Unused.{float_used, rest_unused}

-- ---- a word that is not used is zero
still : (z d : Bool) (w : ℕ) → still_zero z d w ≡ true → (z ≡ true) × (d ≡ false → w ≡ 0)
unfolding still_zero
still true true w e = (refl, λ (f : true ≡ false). apart (sym f))
still true false w e = (refl, λ (f : false ≡ false). eqb-true _ _ e)
still false d w e = apart e

pub unused_zero : (c : List ℕ) (u : Uses) (n j : ℕ) → unused_is_zero c u n ≡ true → j < n → word_used u j ≡ false → get_or c j 0 ≡ 0
unfolding unused_is_zero
unused_zero c u zero j e h f = absurd (omega arith)
unused_zero c u (suc n) j e h f =
    let s = still (unused_is_zero c u n) (word_used u n) (get_or c n 0) e in
    ⊎_elim
    (λ (z : j ≡ n). ap (λ (k : ℕ). get_or c k 0) z ∙ s.1 (ap (word_used u) (sym z) ∙ f))
    (λ (z : j < n). unused_zero c u n j s.0 z f)
    (eq-or-lt_of_le (omega arith))

-- ---- the floats by number
-- component i of triple q is float 3q + i
module _ (g : ℕ → Float) where
  abbrev three : ℕ → Triple
  three q = record { x = g (3 * q); y = g (3 * q + 1); z = g (3 * q + 2) }

  pub by_number : (q i : ℕ) → i < 3 → component (three q) i ≡ g (3 * q + i)
  unfolding component
  by_number q zero h = ap g (omega arith)
  by_number q (suc zero) h = refl
  by_number q (suc (suc zero)) h = refl
  by_number q (suc (suc (suc i))) h = absurd (omega arith)

  pub float_row : (k : ℕ) → k < 123 → float_no (row three 41) k ≡ g k
  unfolding float_no
  float_row k h =
      ap (λ (t : Triple). component t (k % 3)) (at_row three 41 (k / 3) _ (omega arith))
      ∙ by_number (k / 3) (k % 3) (omega arith)
      ∙ ap g (omega arith)

-- the triples of a body made of triples
pub triples_back : (f : ℕ → Triple) (n : List ℕ) (s : ℕ) → triples_of (body_from (row f 41) n s) ≡ row f 41
unfolding triples_of body_from row
triples_back f n s = refl

-- ---- the two words of a pattern
abbrev pattern_at : List ℕ → ℕ → ℕ
pattern_at c k = get_or c (6 + 2 * k) 0 + 2 ^ 32 * get_or c (6 + 2 * k + 1) 0

pub half_low : (a b : ℕ) → a < 2 ^ 32 → half (a + 2 ^ 32 * b) 0 ≡ a
unfolding half
half_low a b h = omega arith

pub half_high : (a b : ℕ) → a < 2 ^ 32 → half (a + 2 ^ 32 * b) 1 ≡ b
unfolding half
half_high a b h = omega arith

-- ---- the bits of the float of a pattern
nan_quiet : (x : Float) → is_nan x ≡ true → to_bits binary64 x ≡ quiet_nan
unfolding is_nan to_bits
nan_quiet nan e = refl
nan_quiet (inf s) e = apart e
nan_quiet (fin s m d) e = apart e

zero_no_nan : (c : List ℕ) (k : ℕ) → get_or c (6 + 2 * k) 0 ≡ 0 → get_or c (6 + 2 * k + 1) 0 ≡ 0 → is_nan (float_at c k) ≡ false
unfolding float_at of_bits is_nan
zero_no_nan c k p q = rw (p, q)

bits_back : (n : ℕ) → n < 2 ^ 64 → to_bits binary64 (of_bits binary64 n) ≡ cond (is_nan (of_bits binary64 n)) quiet_nan n
bits_back n h = go (is_nan (of_bits binary64 n)) refl
  where
    go : (d : Bool) → is_nan (of_bits binary64 n) ≡ d → to_bits binary64 (of_bits binary64 n) ≡ cond d quiet_nan n
    go true e = nan_quiet (of_bits binary64 n) e
    go false e = to_bits-of_bits binary64 n h (fails e)

module _ (c : List ℕ) (size : length c ≡ 504) (small : Below (2 ^ 32) c) (known : Known c) (zero_rest : unused_is_zero c (uses_of (waits_at (run_of c).mark)) 504 ≡ true) where
  abbrev u : Uses
  u = uses_of (waits_at (run_of c).mark)

  unused : (j : ℕ) → j < 504 → word_used u j ≡ false → get_or c j 0 ≡ 0
  unused j h f = unused_zero c u 504 j zero_rest h f

  float_back : (k : ℕ) → k < 123 → to_bits binary64 (float_no (triples_of (run_of c).body) k) ≡ cond (is_nan (float_at c k)) quiet_nan (pattern_at c k)
  unfolding run_of triples_in triple_at float_at
  float_back k h =
      ap (λ (ts : List Triple). to_bits binary64 (float_no ts k)) (triples_back (triple_at c) (counts_at c) (get_or c 5 0))
      ∙ ap (to_bits binary64) (float_row (float_at c) k h)
      ∙ bits_back (pattern_at c k) (omega (arith, small (6 + 2 * k), small (6 + 2 * k + 1)))

  -- ---- each word
  -- outside the floats no word belongs to a NaN
  plain_word : (j : ℕ) → leb 6 j && ltb j 252 ≡ false → quiet_word c j ≡ get_or c j 0
  unfolding quiet_word is_nan_word
  plain_word j e = rw e

  float_word_lem : (j : ℕ) → 6 ≤ j → j < 252 → float_word u (triples_of (run_of c).body) (j - 6) ≡ quiet_word c j
  unfolding float_word quiet_word is_nan_word
  float_word_lem j l h = rw (le-leb 6 j l, lt-ltb j 252 h) (go (used u ((j - 6) / 2)) refl)
    where
      k : ℕ
      k = (j - 6) / 2

      side : (i : ℕ) → (j - 6) % 2 ≡ i → i < 2 → half (pattern_at c k) i ≡ get_or c j 0
      side zero e h = half_low _ _ (small (6 + 2 * k)) ∙ ap (λ (n : ℕ). get_or c n 0) (omega arith)
      side (suc zero) e h = half_high _ _ (small (6 + 2 * k)) ∙ ap (λ (n : ℕ). get_or c n 0) (omega arith)
      side (suc (suc i)) e h = absurd (omega arith)

      stored : (n : Bool) → half (cond n quiet_nan (pattern_at c k)) ((j - 6) % 2) ≡ cond n (half quiet_nan ((j - 6) % 2)) (get_or c j 0)
      stored true = refl
      stored false = side ((j - 6) % 2) refl (omega arith)

      nothing : used u k ≡ false → (i : ℕ) → i < 2 → get_or c (6 + 2 * k + i) 0 ≡ 0
      nothing e i b = unused (6 + 2 * k + i) (omega arith) (float_used u (6 + 2 * k + i) (omega arith) (omega arith) ∙ ap (used u) (omega arith) ∙ e)

      no_nan : used u k ≡ false → is_nan (float_at c k) ≡ false
      no_nan e =
          let a : get_or c (6 + 2 * k) 0 ≡ 0 = ap (λ (n : ℕ). get_or c n 0) (omega arith) ∙ nothing e 0 (omega arith) in
          zero_no_nan c k a (nothing e 1 (omega arith))

      go : (d : Bool) → used u k ≡ d
          → cond d (half (to_bits binary64 (float_no (triples_of (run_of c).body) k)) ((j - 6) % 2)) 0 ≡ cond (is_nan (float_at c k)) (half quiet_nan ((j - 6) % 2)) (get_or c j 0)
      go true e = ap (λ (n : ℕ). half n ((j - 6) % 2)) (float_back k (omega arith)) ∙ stored (is_nan (float_at c k))
      go false e = rw (no_nan e) (sym (ap (λ (n : ℕ). get_or c n 0) (omega arith) ∙ nothing e ((j - 6) % 2) (omega arith)))

  head_word : (j : ℕ) → j < 6 → get_or (head_of (run_of c).mark u (run_of c).body.plan.settings.samples) j 0 ≡ get_or c j 0
  unfolding head_of run_of body_from word_used
  head_word zero h = sym known.form
  head_word (suc zero) h = refl
  head_word (suc (suc zero)) h = go u.index refl
    where
      go : (d : Bool) → u.index ≡ d → cond d (get_or c 2 0) 0 ≡ get_or c 2 0
      go true e = refl
      go false e = sym (unused 2 (omega arith) e)
  head_word (suc (suc (suc zero))) h = go u.stage refl
    where
      go : (d : Bool) → u.stage ≡ d → cond d (get_or c 3 0) 0 ≡ get_or c 3 0
      go true e = refl
      go false e = sym (unused 3 (omega arith) e)
  head_word (suc (suc (suc (suc zero)))) h = refl
  head_word (suc (suc (suc (suc (suc zero))))) h = refl
  head_word (suc (suc (suc (suc (suc (suc j)))))) h = absurd (omega arith)

  count_word : (i : ℕ) → i < 6 → get_or (counts_in (run_of c)) i 0 ≡ get_or c (252 + i) 0
  unfolding counts_in run_of body_from counts_at
  count_word zero h = refl
  count_word (suc zero) h = refl
  count_word (suc (suc zero)) h = refl
  count_word (suc (suc (suc zero))) h = refl
  count_word (suc (suc (suc (suc zero)))) h = refl
  count_word (suc (suc (suc (suc (suc zero))))) h = refl
  count_word (suc (suc (suc (suc (suc (suc i)))))) h = absurd (omega arith)

  word_back : (j : ℕ) → j < 504
      → content_word (head_of (run_of c).mark u (run_of c).body.plan.settings.samples) u (triples_of (run_of c).body) (counts_in (run_of c)) j ≡ quiet_word c j
  unfolding content_word word_used
  word_back j h = first (ltb j 6) (ltb j 252) (ltb j 258) refl refl refl
    where
      first : (a b d : Bool) → ltb j 6 ≡ a → ltb j 252 ≡ b → ltb j 258 ≡ d
          → cond a (get_or (head_of (run_of c).mark u (run_of c).body.plan.settings.samples) j 0)
          (cond b (float_word u (triples_of (run_of c).body) (j - 6)) (cond d (get_or (counts_in (run_of c)) (j - 252) 0) 0)) ≡ quiet_word c j
      first true b d ea eb ed =
          let l : j < 6 = ltb-true _ _ ea in
          head_word j l ∙ sym (plain_word j (rw (lt-leb 6 j l)))
      first false true d ea eb ed = float_word_lem j (ltb-false _ _ ea) (ltb-true _ _ eb)
      first false false true ea eb ed =
          let l : 252 ≤ j = ltb-false _ _ eb in
          let m : j < 258 = ltb-true _ _ ed in
          count_word (j - 252) (omega arith) ∙ ap (λ (n : ℕ). get_or c n 0) (omega arith) ∙ sym (plain_word j (rw (le-leb 6 j (omega arith), eb)))
      first false false false ea eb ed =
          let l : 258 ≤ j = ltb-false _ _ ed in
          sym (plain_word j (rw (le-leb 6 j (omega arith), eb)) ∙ unused j h (rest_unused u j l))

  pub content_again : content_of_run (run_of c) ≡ quieted c
  unfolding content_of_run content_from quieted
  content_again = same_row _ (quiet_word c) 504 word_back
