-- `position_on` is `position_on`, operation by operation.
use lib.Ieee.{of_bits}
use Rattle.quintic.specs.Quintic.{position_on}
use Rattle.quintic.proofs.position_on.Goals as goal

pub returns : goal.returns
unfolding position_on of_bits
returns c =
    simp (c.plus-4.ensures, c.times-5.ensures, c.plus-3.ensures, c.times-4.ensures, c.plus-2.ensures, c.times-3.ensures, c.plus-course.ensures, c.times-2.ensures, c.plus.ensures, c.times.ensures)
