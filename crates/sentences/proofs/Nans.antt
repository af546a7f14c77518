-- A NaN time is neither below nor above any end, and its curve is NaN throughout.
use mathlib.Core.Path.{◌≡◌, refl}
use mathlib.Core.Bool.{false}
use lib.Ieee.{Float, nan, add, sub, mul, div, lt}
use Rattle.double.proofs.Nans.{add_nan, mul_nan, none_below}
use Rattle.triple.specs.declared.Triple.{Triple}
use Rattle.triple.specs.declared.Sample.{Sample}
use Rattle.triple.specs.Arithmetic.{plus, times, over}
use Rattle.quintic.specs.Quintic.{position_on, velocity_on, acceleration_on, quintic_hermite}
use Rattle.intervals.specs.Table.{nans}
use Rattle.intervals.specs.Intervals.{ends_of}
use Rattle.dense.specs.Interpolation.{is_outside, value_at}
use Rattle.sentences.specs.Sentences.{NanNotRefused, NanGivesNan}

above_none : (x : Float) → lt nan x ≡ false
unfolding lt
above_none x = refl

pub nan_not_refused : NanNotRefused
unfolding is_outside
nan_not_refused l = rw (above_none (ends_of l).lower, none_below (ends_of l).upper)

times_nan : (a : Triple) → times a nan ≡ nans
unfolding times
times_nan a = rw (mul_nan a.x, mul_nan a.y, mul_nan a.z)

plus_nans : (a : Triple) → plus a nans ≡ nans
unfolding plus
plus_nans a = rw (add_nan a.x, add_nan a.y, add_nan a.z)

over_nans : (k : Float) → over nans k ≡ nans
unfolding over div
over_nans k = refl

curve_nan : (from to : Sample) → quintic_hermite from to nan ≡ record { r = nans; v = nans; a = nans }
unfolding quintic_hermite position_on velocity_on acceleration_on sub add div mul
curve_nan from to = simp (mul_nan, times_nan, plus_nans, over_nans)

pub nan_gives_nan : NanGivesNan
unfolding value_at
nan_gives_nan l k = curve_nan _ _
