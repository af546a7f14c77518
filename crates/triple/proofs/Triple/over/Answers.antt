-- `Triple::over` is `over`, operation by operation.
use mathlib.Core.Path.{refl}
use Rattle.triple.specs.Arithmetic.{over}
use Rattle.triple.proofs.Triple.over.Goals as goal

pub returns : goal.returns
unfolding over
returns c = refl
