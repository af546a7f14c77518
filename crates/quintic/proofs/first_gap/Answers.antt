-- `first_gap` is `delta1`, operation by operation.
use lib.Ieee.{of_bits}
use Rattle.quintic.specs.Quintic.{delta1}
use Rattle.quintic.proofs.first_gap.Goals as goal

pub returns : goal.returns
unfolding delta1 of_bits
returns c = simp (c.minus-3.ensures, c.times-2.ensures, c.minus-2.ensures, c.times.ensures, c.minus.ensures)
