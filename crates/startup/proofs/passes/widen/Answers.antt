-- `passes::widen` is `widened`.
use Rattle.startup.specs.Passes.{widened}
use Rattle.startup.proofs.passes.widen.Goals as goal

pub returns : goal.returns
unfolding widened
returns c = simp (c.larger_of-mag.ensures, c.size-2.ensures, c.larger_of-delta.ensures, c.size.ensures, c.minus.ensures)
