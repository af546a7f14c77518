-- `body_from`.
use mathlib.Core.Path.{refl}
use Rattle.stored.specs.Taken.{body_from}
use Rattle.stored.proofs.triples.body_from.Goals as goal

pub returns : goal.returns
unfolding body_from
returns c = refl
