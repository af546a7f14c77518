-- `Sums::on` is `on_sums`, operation by operation.
use Rattle.sums.specs.Sums.{on_sums}
use Rattle.sums.proofs.Sums.on.Goals as goal

pub returns : goal.returns
unfolding on_sums
returns c = simp (c.plus-s.ensures, c.plus-big_s.ensures)
