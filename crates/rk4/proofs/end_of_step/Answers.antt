-- `end_of_step` is `end_of_step`, operation by operation.
use Rattle.rk4.specs.Rk4.{end_of_step}
use Rattle.rk4.proofs.end_of_step.Goals as goal

pub returns : goal.returns
unfolding end_of_step
returns c = simp (c.plus-v.ensures, c.averaged-2.ensures, c.plus-r.ensures, c.averaged.ensures, c.step_on-k4.ensures, c.half_on-k3.ensures, c.half_on-k2.ensures)
