-- `is_middle_zero`.
use Rattle.stored.specs.Unused.{middle_zero}
use Rattle.stored.proofs.judging.is_middle_zero.Goals as goal

pub returns : goal.returns
unfolding middle_zero
returns c = cc
