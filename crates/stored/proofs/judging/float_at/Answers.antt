-- `float_at`.
use Rattle.stored.specs.Taken.{float_at}
use Rattle.stored.proofs.judging.float_at.Goals as goal

pub returns : goal.returns
unfolding float_at
returns c = simp (c.float_of.ensures, c.from-2.ensures, c.from.ensures)
