-- `counts_at`.
use Rattle.stored.specs.Taken.{counts_at}
use Rattle.stored.proofs.judging.counts_at.Goals as goal

pub returns : goal.returns
unfolding counts_at
returns c = simp (c.from-6.ensures, c.from-5.ensures, c.from-4.ensures, c.from-3.ensures, c.from-2.ensures, c.from.ensures)
