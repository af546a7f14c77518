-- `tail_for` is `tail_for`.
use Rattle.std.proofs.Common.{arith, lit≤}
use Rattle.profile.proofs.Counts.{about_steps, tail_one, tail_none}
use Rattle.profile.proofs.costs.tail_for.Goals as goal

pub overflow_mul-steps : goal.overflow_mul-steps
overflow_mul-steps c = let k = about_steps _ _ _ c.requires in omega (arith, k.close, k.sized)

pub returns-then-steps-step : goal.returns-then-steps-step
returns-then-steps-step c = (tail_one _ _ _ c.requires.2 c.if-steps-step.true, lit≤ tt)

pub returns : goal.returns
returns c = (tail_none _ _ _ c.requires.2 c.if-steps-step.false, lit≤ tt)
