-- `is_head_zero`.
use Rattle.stored.proofs.Unused.{head_zero}
use Rattle.stored.proofs.judging.is_head_zero.Goals as goal

pub returns : goal.returns
returns c = rw (head_zero _ _) (cc)
