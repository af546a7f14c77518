-- `is_forward` is `is_forward`.
use Rattle.intervals.specs.Intervals.{is_forward}
use Rattle.intervals.proofs.is_forward.Goals as goal

pub returns : goal.returns
unfolding is_forward
returns c = simp (c.time_of.ensures, c.last_time.ensures)
