-- `zeros` is `nine_zeros`.
use Rattle.triple.specs.Nine.{nine_zeros}
use Rattle.triple.proofs.nine.zeros.Goals as goal

pub returns : goal.returns
unfolding nine_zeros
returns c = simp c.zero-zero.ensures
