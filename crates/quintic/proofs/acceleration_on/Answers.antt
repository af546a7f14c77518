-- `acceleration_on` is `acceleration_on`, operation by operation.
use lib.Ieee.{of_bits, of_int}
use Rattle.quintic.specs.Quintic.{acceleration_on}
use Rattle.quintic.proofs.acceleration_on.Goals as goal

pub returns : goal.returns
unfolding acceleration_on of_bits of_int
returns c =
    simp (c.plus-2.ensures, c.over.ensures, c.plus-bent.ensures, c.plus.ensures, c.times-fifth.ensures, c.times-fourth.ensures, c.times-third.ensures)
