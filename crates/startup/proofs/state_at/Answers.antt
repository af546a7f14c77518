-- `state_at` is `state_at`.
use Rattle.startup.specs.Points.{state_at}
use Rattle.startup.proofs.state_at.Goals as goal

pub returns : goal.returns
unfolding state_at
returns c = simp (c.element-2.ensures, c.from-2.ensures, c.element.ensures, c.from.ensures)
