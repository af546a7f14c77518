-- `second_gap` is `delta2`, operation by operation.
use Rattle.quintic.specs.Quintic.{delta2}
use Rattle.quintic.proofs.second_gap.Goals as goal

pub returns : goal.returns
unfolding delta2
returns c = simp (c.minus-2.ensures, c.times-2.ensures, c.times.ensures, c.minus.ensures)
