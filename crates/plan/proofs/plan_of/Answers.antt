-- `formulas::plan_of` is `plan_of`.
use Rattle.plan.specs.Plan.{plan_of}
use Rattle.plan.proofs.plan_of.Goals as goal

pub returns : goal.returns
unfolding plan_of
returns c = simp (c.direction_of.ensures, c.abs.ensures)
