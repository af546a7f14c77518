-- Samples of a room printed one after the other: what is left to print, put behind what is there, stays the same.
use mathlib.Core.Path.{◌≡◌, refl, sym, ap, ◌∙◌}
use Prim.Native.Nat.{ℕ, zero, suc, ◌+◌, ◌-◌, ◌*◌, ◌≤◌, ◌<◌}
use native.Mathlib.Omega.{arith}
use mathlib.Core.Bool.{true}
use mathlib.Core.List.{List, [], ◌∷◌, ◌++◌}
use lib.Dec.{leb}
use lib.ListN.{length, get_or, take, drop, length-append}
use mathlib.Core.List.{append-nil}
use lib.Seq.{drop-cons}
use lib.Ieee.{Float, nan}
use borrow.Author.Tests.{le-leb}
use Rattle.intervals.specs.Table.{ten, sample_of}
use Rattle.intervals.proofs.Reading.{sample_here}
use Rattle.lines.specs.Put.{over, put, after as afterBytes}
use Rattle.lines.specs.Digits.{places}
use Rattle.lines.specs.Lines.{sample_line, refusal_line, ten_from, line_fits, put_line, after_line}
use Rattle.lines.proofs.Over.{over_append, length_over, put_all, after_all}
use Rattle.lines.proofs.Parts.{length_sample, length_refusal}
use Rattle.lines.proofs.Places.{few_places}
use Rattle.flight.specs.Told.{read_from}
use Rattle.forecaster.specs.Printed.{ten_of, entry_lines}

-- ---- ten numbers of a room are those of its sample
abbrev numbers_from : (k i : ℕ) → List Float → (first : ℕ) → List Float
numbers_from zero i l first = []
numbers_from (suc k) i l first = get_or l (first + i) nan ∷ numbers_from k (i + 1) l first

taken : (k i : ℕ) (l : List Float) (first : ℕ) → first + i + k ≤ length l → take k (drop (first + i) l) ≡ numbers_from k i l first
taken zero i l first h = refl
taken (suc k) i l first h =
    let e : suc (first + i) ≡ first + (i + 1) = omega arith in
    rw (drop-cons l (first + i) nan (omega arith), e) (ap (λ (xs : List Float). get_or l (first + i) nan ∷ xs) (taken k (i + 1) l first (omega arith)))

ten_taken : (l : List Float) (first : ℕ) → first + 10 ≤ length l → ten_from first l ≡ ten_of (ten l first)
unfolding ten_from ten_of
ten_taken l first h =
    let e : first ≡ first + 0 = omega arith in
    ap (λ (p : ℕ). take 10 (drop p l)) e ∙ taken 10 0 l first (omega arith)
    ∙ ap (λ (p : ℕ). get_or l p nan ∷ numbers_from 9 1 l first) (sym e)

ten_is : (l : List Float) (i : ℕ) → 10 * i + 10 ≤ length l → ten_from (10 * i) l ≡ ten_of (sample_of l i)
ten_is l i h = ten_taken l (10 * i) h ∙ ap ten_of (sym (sample_here l i (omega arith)))

-- ---- one line more
module _ (count from : ℕ) (room : List Float) (r : 10 * count ≤ length room) where
  abbrev rest : ℕ → List ℕ
  rest i = entry_lines (read_from (count - i) i (from + i) room)

  abbrev line : ℕ → List ℕ
  line i = sample_line (from + i) (ten_from (10 * i) room)

  next_entry : (i : ℕ) → i < count → rest i ≡ line i ++ rest (i + 1)
  unfolding read_from entry_lines
  next_entry i h =
      let e : count - i ≡ suc (count - (i + 1)) = omega arith in
      let n : from + i + 1 ≡ from + (i + 1) = omega arith in
      rw (e, n, ten_is room i (omega arith)) refl

  line_short : (i : ℕ) → i < count → length (line i) ≤ 191
  line_short i h = let k = few_places 19 (from + i) in omega (arith, length_sample (from + i) (places 19 (from + i)) room (10 * i) refl (omega arith))

  fits : (i at : ℕ) (out : List ℕ) → i < count → at + 191 ≤ length out → line_fits room (10 * i) at out ≡ true
  unfolding line_fits
  fits i at out h k = rw (le-leb (10 * i + 10) (length room) (omega arith), le-leb (at + 191) (length out) k)

  module _ (i at : ℕ) (out : List ℕ) (h : i < count) (k : at + 191 ≤ length out) where
    pub line_after : after_line (from + i) room (10 * i) at out ≡ at + length (line i)
    unfolding after_line
    line_after = rw (fits i at out h k)

    pub line_put : put_line (from + i) room (10 * i) at out ≡ over at (line i) out
    unfolding put_line
    line_put = rw (fits i at out h k)

    pub more_put : over (after_line (from + i) room (10 * i) at out) (rest (i + 1)) (put_line (from + i) room (10 * i) at out) ≡ over at (rest i) out
    more_put = rw (line_after, line_put, next_entry i h) (sym (over_append at (line i) (rest (i + 1)) out))

    pub more_length : after_line (from + i) room (10 * i) at out + length (rest (i + 1)) ≡ at + length (rest i)
    more_length = rw (line_after, next_entry i h) (omega (arith, length-append (line i) (rest (i + 1))))

    pub more_most : after_line (from + i) room (10 * i) at out ≤ at + 191
    more_most = rw line_after (let s = line_short i h in omega arith)

    pub more_same : length (put_line (from + i) room (10 * i) at out) ≡ length out
    more_same = rw line_put (length_over at (line i) out)

  pub none_left : (i at : ℕ) (out : List ℕ) → count ≤ i → (over at (rest i) out ≡ out) × (length (rest i) ≡ 0)
  unfolding read_from entry_lines over
  none_left i at out h = let e : count - i ≡ 0 = omega arith in rw e (refl, refl)

  pub all_left : rest 0 ≡ entry_lines (read_from count 0 from room)
  all_left = let e : count - 0 ≡ count = omega arith in let n : from + 0 ≡ from = omega arith in rw (e, n) refl

-- ---- the ending behind the samples
-- nothing more
pub nothing_more_lem : (bytes out₀ out : List ℕ) (at : ℕ) → at ≡ length bytes → out ≡ over 0 bytes out₀ → (at ≡ length (bytes ++ [])) × (out ≡ over 0 (bytes ++ []) out₀)
nothing_more_lem bytes out₀ out at e h = rw (append-nil bytes) (e, h)

-- a refusal's line, which has room behind the longest piece of samples
pub refusal_more : (n : ℕ) (bytes out₀ out after : List ℕ) (at end : ℕ) → at ≡ length bytes → at ≤ 12224 → out ≡ over 0 bytes out₀ → 12245 ≤ length out₀
    → end ≡ afterBytes (refusal_line n) at out → after ≡ put (refusal_line n) at out
    → (end ≡ length (bytes ++ refusal_line n)) × (after ≡ over 0 (bytes ++ refusal_line n) out₀)
refusal_more n bytes out₀ out after at end e l h r f g =
    let k = few_places 19 n in
    let z : at ≡ 0 + length bytes = omega arith in
    let s = length_refusal n (places 19 n) refl in
    let o : length out ≡ length out₀ = ap (λ (b : List ℕ). length b) h ∙ length_over 0 bytes out₀ in
    let fit : leb (at + (places 19 n + 1)) (length out) ≡ true = le-leb (at + (places 19 n + 1)) (length out) (omega arith) in (
      f ∙ after_all (refusal_line n) (places 19 n + 1) at out s fit ∙ (omega (arith, length-append bytes (refusal_line n))),
      g ∙ put_all (refusal_line n) (places 19 n + 1) at out s fit ∙ rw (h, z) (sym (over_append 0 bytes (refusal_line n) out₀)),
    )
