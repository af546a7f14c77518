-- `Triple::zero` is `zeros`: the literal is 0.0.
use lib.Ieee.{of_bits}
use Rattle.triple.specs.Arithmetic.{zeros}
use Rattle.triple.proofs.Triple.zero.Goals as goal

pub returns : goal.returns
unfolding zeros of_bits
returns c = c.thrice.ensures
