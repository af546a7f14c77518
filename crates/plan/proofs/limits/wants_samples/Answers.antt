-- `wants_samples` is `wants_samples`.
use Rattle.plan.specs.Limits.{wants_samples}
use Rattle.plan.proofs.limits.wants_samples.Goals as goal

pub returns : goal.returns
unfolding wants_samples
returns c = cc
