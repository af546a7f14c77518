-- A triple of f64, as Rattle's types have it.
pub use Rattle.double.specs.Doubles.{Double}
use Rattle.triple.specs.declared.Triple.{Triple}

pub record Doubles (t : Triple) : Type 0 where
  pub x : Double t.x
  pub y : Double t.y
  pub z : Double t.z
