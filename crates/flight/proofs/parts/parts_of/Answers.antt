-- `parts::parts_of` is `parts_of`.
use mathlib.Core.Path.{refl}
use Rattle.flight.specs.Parts.{parts_of}
use Rattle.flight.proofs.parts.parts_of.Goals as goal

pub returns : goal.returns
unfolding parts_of
returns c = refl
