-- `is_misshapen` is `is_misshapen`: the quotient says what the product says.
use borrow.Author.Tests.{eq-eqb, ne_eqb}
use Rattle.dense.proofs.Loops.{room_is}
use Rattle.dense.specs.Interpolation.{is_misshapen}
use Rattle.dense.proofs.verdict.is_misshapen.Goals as goal

pub returns-then-samples-ne0 : goal.returns-then-samples-ne0
unfolding is_misshapen
returns-then-samples-ne0 c = simp (ne_eqb _ _ c.if-samples-ne0.true)

pub returns : goal.returns
unfolding is_misshapen
returns c = simp (eq-eqb _ _ c.if-samples-ne0.false, ← room_is)
