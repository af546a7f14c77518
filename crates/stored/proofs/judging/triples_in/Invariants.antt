-- `triples_in` is `triples_in`: one after the other.
use mathlib.Core.Path.{◌≡◌}
use lib.ListN.{length}
use Rattle.blocks.specs.Rows.{filled}
use Rattle.stored.specs.Taken.{triple_at}
use Rattle.stored.proofs.judging.triples_in.Given as goal

abbrev pub invariant-loop-q : goal.invariant-loop-q
invariant-loop-q l = (length l.initial.t-items ≡ 41) × (l.t-items ≡ filled (triple_at l.content) l.q l.initial.t-items)
