-- `step_on` is `step_on`, operation by operation.
use Rattle.rk4.specs.Rk4.{step_on}
use Rattle.rk4.proofs.step_on.Goals as goal

pub returns : goal.returns
unfolding step_on
returns c = simp (c.plus.ensures, c.times.ensures)
