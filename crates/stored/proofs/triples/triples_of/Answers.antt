-- `triples_of`.
use mathlib.Core.Path.{refl}
use Rattle.stored.specs.Layout.{triples_of}
use Rattle.stored.proofs.triples.triples_of.Goals as goal

pub returns : goal.returns
unfolding triples_of
returns c = refl
