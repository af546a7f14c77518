-- `last_time` is `last_time`.
use Rattle.intervals.specs.Intervals.{last_time}
use Rattle.intervals.proofs.last_time.Goals as goal

pub returns : goal.returns
unfolding last_time
returns c = simp (c.time_of.ensures, c.saturating_sub.ensures, c.count_of.ensures)
