-- `predicted` is `predicted_state`, operation by operation.
use Rattle.sums.specs.Sums.{predicted_state}
use Rattle.sums.proofs.predicted.Goals as goal

pub returns : goal.returns
unfolding predicted_state
returns c = simp (c.times-v.ensures, c.plus-3.ensures, c.sum_of-2.ensures, c.times-r.ensures, c.plus-2.ensures, c.sum_of.ensures, c.plus.ensures)
