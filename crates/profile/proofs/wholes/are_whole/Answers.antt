-- `are_whole` is `are_whole`.
use Rattle.profile.specs.Wholes.{are_whole}
use Rattle.profile.proofs.wholes.are_whole.Goals as goal

pub returns : goal.returns
unfolding are_whole
returns c = rw (← c.is_whole_time-start.ensures, ← c.is_whole_time-end.ensures, ← c.is_whole_step-step.ensures)
