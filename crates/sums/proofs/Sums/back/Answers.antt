-- `Sums::back` is `back_sums`, operation by operation.
use Rattle.sums.specs.Sums.{back_sums}
use Rattle.sums.proofs.Sums.back.Goals as goal

pub returns : goal.returns
unfolding back_sums
returns c = simp (c.minus-s.ensures, c.plus-big_s.ensures, c.minus.ensures)
