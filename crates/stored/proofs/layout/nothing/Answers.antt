-- `nothing`.
use mathlib.Core.Path.{refl}
use Rattle.stored.specs.Layout.{line, nothing_used}
use Rattle.stored.proofs.layout.nothing.Goals as goal

pub returns : goal.returns
unfolding line nothing_used
returns c = refl
