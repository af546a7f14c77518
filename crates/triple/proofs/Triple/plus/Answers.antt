-- `Triple::plus` is `plus`, operation by operation.
use mathlib.Core.Path.{refl}
use Rattle.triple.specs.Arithmetic.{plus}
use Rattle.triple.proofs.Triple.plus.Goals as goal

pub returns : goal.returns
unfolding plus
returns c = refl
