-- `left_at` is `left_at`.
use mathlib.Core.Path.{refl}
use Rattle.conditions.specs.Conditions.{left_at}
use Rattle.conditions.proofs.left_at.Goals as goal

pub returns : goal.returns
unfolding left_at
returns c = refl
