-- `Triple::minus` is `minus`, operation by operation.
use mathlib.Core.Path.{refl}
use Rattle.triple.specs.Arithmetic.{minus}
use Rattle.triple.proofs.Triple.minus.Goals as goal

pub returns : goal.returns
unfolding minus
returns c = refl
