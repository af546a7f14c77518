-- `triple_at`.
use Rattle.stored.specs.Taken.{triple_at}
use Rattle.stored.proofs.judging.triple_at.Goals as goal

pub returns : goal.returns
unfolding triple_at
returns c = simp (c.float_at-3.ensures, c.float_at-2.ensures, c.float_at.ensures)
