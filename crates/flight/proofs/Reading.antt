-- What is read back from a room: the samples that were put there, each untouched by those put after it.
use mathlib.Core.Path.{◌≡◌, refl, sym, ap, ◌∙◌}
use Prim.Native.Nat.{ℕ, zero, suc, ◌+◌, ◌-◌, ◌*◌, ◌≤◌, ◌<◌}
use native.Mathlib.Omega.{arith}
use mathlib.Core.List.{List, [], ◌∷◌}
use lib.ListN.{length, get_or, set, length-set}
use lib.Seq.{get_or-set_same, get_or-set_other}
use lib.Ieee.{Float, nan}
use Rattle.triple.specs.declared.Sample.{Sample}
use Rattle.triple.specs.Sampled.{sample_width}
use Rattle.run.specs.Samples.{tens, numbers_of, written, put, put_all}
use Rattle.run.proofs.Placing.{length_written}
use Rattle.intervals.specs.Table.{ten, sample_of}
use Rattle.intervals.proofs.Reading.{sample_here}
use Rattle.flight.specs.Story.{Entry, numbered}
use Rattle.flight.specs.Told.{read_from}

-- ---- numbers stored one after the other, from place p + k on
module _ (p : ℕ) where
  abbrev stored : (k : ℕ) → List Float → List Float → List Float
  stored k [] l = l
  stored k (x ∷ xs) l = stored (k + 1) xs (set l (p + k) x)

  -- what stands before them
  under : (xs : List Float) (k j : ℕ) (l : List Float) → j < p + k → get_or (stored k xs l) j nan ≡ get_or l j nan
  under [] k j l h = refl
  under (x ∷ xs) k j l h = under xs (k + 1) j (set l (p + k) x) (omega arith) ∙ get_or-set_other l (p + k) j x nan (λ (e : j ≡ p + k). omega arith)

  -- the i-th of them
  each : (xs : List Float) (k i : ℕ) (l : List Float) → i < length xs → p + k + length xs ≤ length l → get_or (stored k xs l) (p + (k + i)) nan ≡ get_or xs i nan
  each [] k i l h r = absurd (omega arith)
  each (x ∷ xs) k zero l h r =
      let e : p + (k + 0) ≡ p + k = omega arith in
      ap (λ (j : ℕ). get_or (stored k (x ∷ xs) l) j nan) e ∙ under xs (k + 1) (p + k) (set l (p + k) x) (omega arith) ∙ get_or-set_same l (p + k) x nan (omega arith)
  each (x ∷ xs) k (suc i) l h r =
      let e : p + (k + suc i) ≡ p + (k + 1 + i) = omega arith in
      ap (λ (j : ℕ). get_or (stored k (x ∷ xs) l) j nan) e ∙ each xs (k + 1) i (set l (p + k) x) (omega arith) (omega (arith, length-set l (p + k) x))

-- ---- a sample's ten numbers
module _ (p : ℕ) (s : Sample) (l : List Float) where
  abbrev nine : List Float
  nine = s.r.x ∷ s.r.y ∷ s.r.z ∷ s.v.x ∷ s.v.y ∷ s.v.z ∷ s.a.x ∷ s.a.y ∷ s.a.z ∷ []

  before_it : (j : ℕ) → j < p → get_or (written p s l) j nan ≡ get_or l j nan
  unfolding written
  before_it j h = under p nine 1 j (set l p s.t) (omega arith) ∙ get_or-set_other l p j s.t nan (λ (e : j ≡ p). omega arith)

  time_there : p + 10 ≤ length l → get_or (written p s l) p nan ≡ s.t
  unfolding written
  time_there h = under p nine 1 p (set l p s.t) (omega arith) ∙ get_or-set_same l p s.t nan (omega arith)

  there : p + 10 ≤ length l → (i : ℕ) → i < 9 → get_or (written p s l) (p + (1 + i)) nan ≡ get_or nine i nan
  unfolding written
  there h i k = each p nine 1 i (set l p s.t) k (omega (arith, length-set l p s.t))

  ten_there : p + 10 ≤ length l → ten (written p s l) p ≡ s
  ten_there h =
      let at = there h in
      rw (time_there h, at 0 (omega arith), at 1 (omega arith), at 2 (omega arith), at 3 (omega arith), at 4 (omega arith), at 5 (omega arith), at 6 (omega arith), at 7 (omega arith), at 8 (omega arith))

  ten_before : (i : ℕ) → i + 10 ≤ p → ten (written p s l) i ≡ ten l i
  ten_before i h =
      rw (
        before_it i (omega arith),
        before_it (i + 1) (omega arith),
        before_it (i + 2) (omega arith),
        before_it (i + 3) (omega arith),
        before_it (i + 4) (omega arith),
        before_it (i + 5) (omega arith),
        before_it (i + 6) (omega arith),
        before_it (i + 7) (omega arith),
        before_it (i + 8) (omega arith),
        before_it (i + 9) (omega arith),
      )

-- ---- a row of samples: those put later stand after it
untouched : (ss : List Sample) (n from i : ℕ) (l : List Float) → from + i < n → 10 * (i + 1) ≤ length l → sample_of (numbers_of (put_all n ss (tens from l))) i ≡ sample_of l i
unfolding put_all put numbers_of
untouched [] n from i l h r = refl
untouched (s ∷ ss) n from i l h r =
    let p = sample_width * (n - from) in
    let e : length (written p s l) ≡ length l = length_written p s l in
    untouched ss (n + 1) from i (written p s l) (omega arith) (omega arith)
    ∙ sample_here (written p s l) i (omega arith) ∙ ten_before p s l (10 * i) (omega arith) ∙ sym (sample_here l i (omega arith))

-- the samples that were put, read from the places where they were put
pub read_back : (ss : List Sample) (from i n : ℕ) (l : List Float) → n ≡ from + i → 10 * (i + length ss) ≤ length l
    → read_from (length ss) i n (numbers_of (put_all n ss (tens from l))) ≡ numbered n ss
unfolding read_from put_all put numbers_of numbered
read_back [] from i n l e r = refl
read_back (s ∷ ss) from i n l e r =
    let p = sample_width * (n - from) in
    let q : p ≡ 10 * i = omega arith in
    let w : length (written p s l) ≡ length l = length_written p s l in
    let out = numbers_of (put_all (n + 1) ss (tens from (written p s l))) in
    let h : sample_of out i ≡ s
    = untouched ss (n + 1) from i (written p s l) (omega arith) (omega arith) ∙ sample_here (written p s l) i (omega arith)
    ∙ ap (λ (j : ℕ). ten (written p s l) j) (sym q) ∙ ten_there p s l (omega arith) in
    ap (λ (x : Sample). record { number = n; sample = x } ∷ read_from (length ss) (i + 1) (n + 1) out) h
    ∙ ap (λ (x : List Entry). record { number = n; sample = s } ∷ x) (read_back ss from (i + 1) (n + 1) (written p s l) (omega arith) (omega arith))
