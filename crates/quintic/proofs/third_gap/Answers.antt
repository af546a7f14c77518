-- `third_gap` is `delta3`, operation by operation.
use Rattle.quintic.specs.Quintic.{delta3}
use Rattle.quintic.proofs.third_gap.Goals as goal

pub returns : goal.returns
unfolding delta3
returns c = simp (c.times.ensures, c.minus.ensures)
