-- `samples_for`: one more than steps, or none.
use Rattle.std.proofs.Common.{true, false, arith}
use Rattle.profile.proofs.Counts.{picked}
use Rattle.profile.proofs.costs.samples_for.Goals as goal

pub returns-then-wants_samples : goal.returns-then-wants_samples
returns-then-wants_samples c = (picked _ _ true _ 0 c.wants_samples.ensures c.if-wants_samples.true, omega arith)

pub returns : goal.returns
returns c = (picked _ _ false _ 0 c.wants_samples.ensures c.if-wants_samples.false, omega arith)
