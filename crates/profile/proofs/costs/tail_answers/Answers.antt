-- `tail_answers`: T times four, and with samples five.
use Rattle.std.proofs.Common.{ℕ, ◌+◌, ◌*◌, true, false, ap, arith}
use Rattle.profile.proofs.Counts.{picked}
use Rattle.profile.proofs.costs.tail_answers.Goals as goal

pub returns-then-wants_samples : goal.returns-then-wants_samples
returns-then-wants_samples c = (ap (λ (i : ℕ). c.args.tail * (4 + i)) (picked _ _ true 1 0 c.wants_samples.ensures c.if-wants_samples.true), omega (arith, c.requires))

pub returns : goal.returns
returns c = (ap (λ (i : ℕ). c.args.tail * (4 + i)) (picked _ _ false 1 0 c.wants_samples.ensures c.if-wants_samples.false), omega (arith, c.requires))
