-- `is_outside` is `is_outside`.
use Rattle.dense.specs.Interpolation.{is_outside}
use Rattle.dense.proofs.verdict.is_outside.Goals as goal

pub returns-then-t-ends : goal.returns-then-t-ends
unfolding is_outside
returns-then-t-ends c = simp c.if-t-ends.true

pub returns : goal.returns
unfolding is_outside
returns c = simp c.if-t-ends.false
