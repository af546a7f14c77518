-- `are_six_zero`.
use Rattle.stored.specs.Unused.{six_zero}
use Rattle.stored.proofs.judging.are_six_zero.Goals as goal

pub returns : goal.returns
unfolding six_zero
returns c = cc
