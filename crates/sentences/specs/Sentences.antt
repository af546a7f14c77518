-- Sentences of 01, and of W-203, that follow from the definitions. Each is proved in the file of proofs/ that is named beside it.
use Rattle.std.specs.Prelude.{ℕ, ◌+◌, ◌*◌, ◌/◌, ◌<◌, ◌≤◌, ◌≡◌, ◌⊎◌, true, false, List, length, get_or, pos, Float, Ok}
use Rattle.std.specs.Float.{nan, fin, binary64}
use Rattle.std.specs.Float.Ieee.{sub, mul, div, eq, of_int}
use Rattle.triple.specs.declared.Triple.{Triple}
use Rattle.triple.specs.declared.Sample.{Sample}
use Rattle.triple.specs.Arithmetic.{nought}
use Rattle.triple.specs.Finite.{is_finite}
use Rattle.triple.specs.Doubles.{Doubles}
use Rattle.quintic.specs.Quintic.{curve_of, quintic_hermite}
use Rattle.intervals.specs.Table.{count_of, nans, sample_of, time_of}
use Rattle.intervals.specs.Intervals.{is_forward, ends_of, is_short, interval_of, walked_to}
use Rattle.dense.specs.Interpolation.{between_numbers, judged, is_outside, value_at, interpolated, batched}

-- "output past 6 numbers a time is untouched", nine since W-203 (Places)
abbrev pub PastUntouched : Type 0
PastUntouched =
    (times samples out : List Float) (p : ℕ) → between_numbers * length times ≤ p → get_or (batched times samples out) p nan ≡ get_or out p nan

abbrev pub PastUntouchedOne : Type 0
PastUntouchedOne = (t : Float) (samples out : List Float) (p : ℕ) → between_numbers ≤ p → get_or (interpolated t samples out) p nan ≡ get_or out p nan

-- Where a call writes, every time has its place, so that `put` leaves out none (Places)
abbrev pub PlaceForAll : Type 0
PlaceForAll =
    (times samples out : List Float) → judged times samples out ≡ Ok tt → (j : ℕ) → j < length times → j < length out / between_numbers

-- "A NaN time is not refused and gives NaN" (Nans)
abbrev pub NanNotRefused : Type 0
NanNotRefused = (l : List Float) → is_outside (ends_of l) nan ≡ false

abbrev pub NanGivesNan : Type 0
NanGivesNan = (l : List Float) (k : ℕ) → value_at l k nan ≡ record { r = nans; v = nans; a = nans }

-- "At an inner sample time the first uses the interval that starts there, a fresh batch the one that ends there" (Inner).
-- Sample n stands apart: every time before it is strictly short of its own, and its own of the next; as where the times are in strict order.
pub record Apart (l : List Float) (n : ℕ) : Type 0 where
  pub behind : (i : ℕ) → i < n → is_short (is_forward l) (time_of l i) (time_of l n) ≡ true
  pub ahead : is_short (is_forward l) (time_of l n) (time_of l (n + 1)) ≡ true

abbrev pub AtInnerSample : Type 0
AtInnerSample =
    (l : List Float) (n : ℕ) → Apart l n → 0 < n → n + 1 < count_of l → (interval_of l (time_of l n) ≡ n) × (walked_to l (time_of l n) 0 + 1 ≡ n)

-- ---- the acceleration at s = 0 is the near sample's own, a_a, where the curve's coefficients are finite and h·h is not 0; but a -0.0 may come
-- back as 0.0 (Own). With h the time from one sample to the next, and s = (t - t_a)/h:
abbrev pub time_to : Sample → Sample → Float
time_to from to = sub binary64 to.t from.t

abbrev pub share_at : Sample → Sample → Float → Float
share_at from to t = div binary64 (sub binary64 t from.t) (time_to from to)

abbrev pub square_of : Sample → Sample → Float
square_of from to = mul binary64 (time_to from to) (time_to from to)

-- y is x; or x is -0.0, and y is 0.0
abbrev pub Again : Float → Float → Type 0
Again x y = (y ≡ x) ⊎ ((x ≡ fin true 0 (pos 0)) × (y ≡ nought))

pub record AgainEach (a b : Triple) : Type 0 where
  pub x : Again a.x b.x
  pub y : Again a.y b.y
  pub z : Again a.z b.z

pub record AllFinite (t : Triple) : Type 0 where
  pub x : is_finite t.x ≡ true
  pub y : is_finite t.y ≡ true
  pub z : is_finite t.z ≡ true

-- the coefficients are finite
pub record Smooth (from to : Sample) : Type 0 where
  pub c3 : AllFinite (curve_of (time_to from to) from to).c3
  pub c4 : AllFinite (curve_of (time_to from to) from to).c4
  pub c5 : AllFinite (curve_of (time_to from to) from to).c5

-- at s = 0, whichever zero that is
abbrev pub AtShareZero : Type 0
AtShareZero =
    (from to : Sample) (t : Float) → Doubles from.a → Smooth from to → eq (square_of from to) nought ≡ false → eq (share_at from to t) nought ≡ true
    → AgainEach from.a (quintic_hermite from to t).a

-- for a tiny h, h·h underflows: 0/0 is NaN, and so is the acceleration at s = 0
abbrev pub AtTinyTime : Type 0
AtTinyTime =
    (from to : Sample) (t : Float) → Smooth from to → eq (square_of from to) nought ≡ true → eq (share_at from to t) nought ≡ true
    → (quintic_hermite from to t).a ≡ nans

-- by the first of the two, at the near sample's own time
abbrev pub AtOwnTime : Type 0
AtOwnTime =
    (from to : Sample) → Doubles from.a → Smooth from to → eq (square_of from to) nought ≡ false → AgainEach from.a (quintic_hermite from to from.t).a

-- and so `interpolate` gives it back at the time of each sample but the last, since the interval that it takes starts there
abbrev pub AtSampleAgain : Type 0
AtSampleAgain =
    (l : List Float) (n : ℕ) → Apart l n → n + 1 < count_of l
    → Doubles (sample_of l n).a → Smooth (sample_of l n) (sample_of l (n + 1)) → eq (square_of (sample_of l n) (sample_of l (n + 1))) nought ≡ false
    → AgainEach (sample_of l n).a (value_at l (interval_of l (time_of l n)) (time_of l n)).a

-- these conditions can be met: by the samples of 01's starred quintic, r v a = 0 0 0 at 0 and 1 5 20 at 1
abbrev alike : ℕ → Triple
alike n = let x = of_int binary64 (pos n) in record { x = x; y = x; z = x }

abbrev rest_at0 : Sample
rest_at0 = record { t = of_int binary64 (pos 0); r = alike 0; v = alike 0; a = alike 0 }

abbrev gone_at1 : Sample
gone_at1 = record { t = of_int binary64 (pos 1); r = alike 1; v = alike 5; a = alike 20 }

abbrev pub StarredIsSmooth : Type 0
StarredIsSmooth = Doubles rest_at0.a × Smooth rest_at0 gone_at1 × (eq (square_of rest_at0 gone_at1) nought ≡ false)
