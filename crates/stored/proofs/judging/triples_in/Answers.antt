-- `triples_in` is `triples_in`: one after the other.
use mathlib.Core.Path.{◌≡◌, refl, ◌∙◌}
use native.Mathlib.Numerals.{add-one}
use native.Mathlib.Omega.{arith}
use borrow.Author.Rules.{rules}
use Rattle.triple.specs.Arithmetic.{zeros}
use Rattle.blocks.specs.Rows.{filled}
use Rattle.blocks.proofs.Filled.{filled_row}
use Rattle.stored.specs.Taken.{triples_in}
use Rattle.stored.proofs.judging.triples_in.Goals as goal

pub loop-q-init : goal.loop-q-init
unfolding filled
loop-q-init c = (refl, refl)

pub loop-q-preserved : goal.loop-q-preserved
unfolding filled
loop-q-preserved c = (search rules, rw add-one (cc))

pub returns : goal.returns
unfolding triples_in
returns c = let e : c.loop-q.q ≡ 41 = omega arith in c.loop-q.invariant.1 ∙ rw e (filled_row _ 41 _ zeros c.loop-q.invariant.0)
