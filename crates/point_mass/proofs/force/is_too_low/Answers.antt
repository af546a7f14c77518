-- `force::is_too_low` is `is_too_low`.
use mathlib.Core.Path.{refl}
use lib.Ieee.{of_bits}
use Rattle.point_mass.specs.Force.{is_too_low}
use Rattle.point_mass.proofs.force.is_too_low.Goals as goal

pub returns : goal.returns
unfolding is_too_low of_bits
returns c = refl
