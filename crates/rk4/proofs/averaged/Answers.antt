-- `averaged` is `averaged`, operation by operation.
use lib.Ieee.{of_bits, div}
use Rattle.rk4.specs.Rk4.{averaged, sixth}
use Rattle.rk4.proofs.averaged.Goals as goal

pub returns : goal.returns
unfolding averaged sixth of_bits div
returns c = simp (c.times-3.ensures, c.plus-3.ensures, c.plus-2.ensures, c.times-2.ensures, c.plus.ensures, c.times.ensures)
