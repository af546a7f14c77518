-- `direction_of` is `direction_of`.
use lib.Ieee.{of_bits, of_int, neg}
use Rattle.plan.specs.Plan.{direction_of}
use Rattle.plan.proofs.direction_of.Goals as goal

pub returns-then-tf-t0 : goal.returns-then-tf-t0
unfolding direction_of of_bits of_int
returns-then-tf-t0 c = simp c.if-tf-t0.true

pub returns-else-tf-t0 : goal.returns-else-tf-t0
unfolding direction_of of_bits of_int neg
returns-else-tf-t0 c = simp c.if-tf-t0.false
