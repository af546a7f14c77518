-- `Triple::times` is `times`, operation by operation.
use mathlib.Core.Path.{refl}
use Rattle.triple.specs.Arithmetic.{times}
use Rattle.triple.proofs.Triple.times.Goals as goal

pub returns : goal.returns
unfolding times
returns c = refl
