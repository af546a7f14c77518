-- 01: "A sample is ten f64: t, r, v, a."
use Rattle.std.specs.Prelude.{ℕ, Float}
use Rattle.triple.specs.declared.Triple.{Triple}
use Rattle.triple.specs.declared.State.{State}
use Rattle.triple.specs.declared.Point.{Point}
use Rattle.triple.specs.declared.Sample.{Sample}

abbrev pub sample_width : ℕ
sample_width = 10

-- a state at a time, and a point with the acceleration there
abbrev pub at_time : State → (t : Float) → Point
at_time x t = record { t = t; r = x.r; v = x.v }

abbrev pub with_acceleration : Point → Triple → Sample
with_acceleration p a = record { t = p.t; r = p.r; v = p.v; a = a }
