-- `place` is `placed`.
use Rattle.startup.specs.Points.{placed}
use Rattle.startup.proofs.place.Goals as goal

pub returns : goal.returns
unfolding placed
returns c = simp (c.replaced-2.ensures, c.from-2.ensures, c.replaced.ensures, c.from.ensures)
