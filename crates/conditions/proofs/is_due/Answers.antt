-- `is_due` is `is_due`.
use lib.Ieee.{of_bits}
use Rattle.conditions.specs.Conditions.{is_due}
use Rattle.conditions.proofs.is_due.Goals as goal

pub returns : goal.returns
unfolding is_due of_bits
returns c = simp c.direction_of.ensures
