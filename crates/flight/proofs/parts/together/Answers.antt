-- `parts::together` is `together`.
use mathlib.Core.Path.{refl}
use Rattle.flight.specs.Parts.{together}
use Rattle.flight.proofs.parts.together.Goals as goal

pub returns : goal.returns
unfolding together
returns c = refl
