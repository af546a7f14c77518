-- `half_on` is `half_on`, operation by operation.
use lib.Ieee.{of_bits}
use Rattle.rk4.specs.Rk4.{half_on}
use Rattle.rk4.proofs.half_on.Goals as goal

pub returns : goal.returns
unfolding half_on of_bits
returns c = simp (c.plus.ensures, c.times.ensures)
