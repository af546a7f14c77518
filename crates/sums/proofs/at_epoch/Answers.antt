-- `at_epoch` is `epoch_sums`, operation by operation.
use Rattle.sums.specs.Sums.{epoch_sums}
use Rattle.sums.proofs.at_epoch.Goals as goal

pub returns : goal.returns
unfolding epoch_sums
returns c = simp (c.minus-big_s.ensures, c.sum_of-2.ensures, c.over-2.ensures, c.minus-s.ensures, c.sum_of.ensures, c.over.ensures)
