-- 01: "Bounds: t0, tf whole, at most 2^50 in size; h whole, 1 to 10^9 in size", of floats as they come. That these tests are exact, and `whole_of` the
-- number, is `ReadsExactly`; the proof is `reads_exactly` in proofs/Reading.antt.
use Rattle.std.specs.Prelude.{◌≡◌, ◌*◌, ◌/◌, ◌%◌, ◌^◌, ◌≤◌, Bool, true, false, cond, ◌&&◌, ℤ, pos, neg_ℤ, ◌==◌, nat_le, unsigned_abs, Float}
use Rattle.std.specs.Float.{nan, inf, fin}
use Rattle.std.specs.Float.Ieee.{up, down}
use Rattle.triple.specs.Doubles.{Double}
use Rattle.whole.specs.Whole.{IsWhole}
use Rattle.counting.specs.Counting.{farthest}

-- a finite float `fin s m e` is m · 2^e, below zero where s holds; `up e` and `down e` are 2^e over one, for a negative e one over 2^-e

-- the whole number that a float is; a fraction is dropped, and what is no number counts as 0
unfoldable pub whole_of : Float → ℤ
whole_of nan = pos 0
whole_of (inf s) = pos 0
whole_of (fin s m e) = cond s (neg_ℤ (pos (m * up e / down e))) (pos (m * up e / down e))

-- there is no fraction
unfoldable pub has_no_fraction : Float → Bool
has_no_fraction nan = false
has_no_fraction (inf s) = false
has_no_fraction (fin s m e) = m * up e % down e == 0

-- "t0, tf whole, at most 2^50 in size"
unfoldable pub is_whole_time : Float → Bool
is_whole_time t = has_no_fraction t && nat_le (unsigned_abs (whole_of t)) farthest

-- "h whole, 1 to 10^9 in size"
unfoldable pub is_whole_step : Float → Bool
is_whole_step h = has_no_fraction h && nat_le 1 (unsigned_abs (whole_of h)) && nat_le (unsigned_abs (whole_of h)) (10 ^ 9)

-- "start, end and step whole and within 01's bounds"
unfoldable pub are_whole : (t0 tf h : Float) → Bool
are_whole t0 tf h = is_whole_time t0 && is_whole_time tf && is_whole_step h

-- an f64 passes where it is a whole number within the bounds, -0.0 for 0, and nowhere else; and `whole_of` is that number
pub record ReadsExactly (x : Float) : Type 0 where
  pub time_read : is_whole_time x ≡ true → IsWhole x (whole_of x) × (unsigned_abs (whole_of x) ≤ farthest)
  pub time_passes : (z : ℤ) → IsWhole x z → unsigned_abs z ≤ farthest → (is_whole_time x ≡ true) × (whole_of x ≡ z)
  pub step_read : is_whole_step x ≡ true → IsWhole x (whole_of x) × (1 ≤ unsigned_abs (whole_of x)) × (unsigned_abs (whole_of x) ≤ 10 ^ 9)
  pub step_passes : (z : ℤ) → IsWhole x z → 1 ≤ unsigned_abs z → unsigned_abs z ≤ 10 ^ 9 → (is_whole_step x ≡ true) × (whole_of x ≡ z)

abbrev pub AllReadExactly : Type 0
AllReadExactly = (x : Float) → Double x → ReadsExactly x
