-- What comes from outside is f64, as Rattle's types have it: the promises about stored forms, which hold the bits of floats, speak of such numbers.
use Rattle.std.specs.Prelude.{Float}
use Rattle.triple.specs.declared.Triple.{Triple}
use Rattle.triple.specs.Doubles.{Double, Doubles}
use Rattle.plan.specs.declared.Settings.{Settings}

-- the numbers of a start
pub record Outside (s : Settings) (t0 tf : Float) (r0 v0 : Triple) : Type 0 where
  pub step : Double s.h
  pub corrector : Double s.corrector_tol
  pub startup : Double s.startup_tol
  pub start : Double t0
  pub end : Double tf
  pub position : Doubles r0
  pub velocity : Doubles v0
