-- `abs` is `absolute`: by the tests `x == 0.0` and `x < 0.0`.
use lib.Ieee.{of_bits}
use Rattle.triple.proofs.Tests.{holds, fails, at_zero, below_zero, above_zero}
use Rattle.triple.proofs.abs.Goals as goal

pub returns-then-x : goal.returns-then-x
unfolding of_bits
returns-then-x c = at_zero _ (holds c.well_formed.0.1) (holds c.if-x.true)

pub returns-then-x-2 : goal.returns-then-x-2
unfolding of_bits
returns-then-x-2 c = below_zero _ (holds c.if-x-2.true)

pub returns-else-x-2 : goal.returns-else-x-2
unfolding of_bits
returns-else-x-2 c = above_zero _ (fails c.if-x.false) (fails c.if-x-2.false)
