-- `velocity_on` is `velocity_on`, operation by operation.
use lib.Ieee.{of_bits, of_int}
use Rattle.quintic.specs.Quintic.{velocity_on}
use Rattle.quintic.proofs.velocity_on.Goals as goal

pub returns : goal.returns
unfolding velocity_on of_bits of_int
returns c =
    simp (c.plus-2.ensures, c.times-4.ensures, c.plus-bent.ensures, c.times-3.ensures, c.plus.ensures, c.times-2.ensures, c.plus-course.ensures, c.times.ensures)
