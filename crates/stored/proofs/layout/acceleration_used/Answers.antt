-- `acceleration_used`.
use borrow.Author.Tests.{lt-leb, le-leb, eq-eqb, ne_eqb}
use Rattle.stored.specs.Layout.{acceleration_used}
use Rattle.stored.proofs.layout.acceleration_used.Goals as goal

pub returns-then-i-eq4 : goal.returns-then-i-eq4
unfolding acceleration_used
returns-then-i-eq4 c = simp (eq-eqb _ _ c.if-i-eq4.true)

pub returns-then-from-i : goal.returns-then-from-i
unfolding acceleration_used
returns-then-from-i c = simp (ne_eqb _ _ c.if-i-eq4.false, c.from-then-from-i.ensures, ← c.from.ensures, le-leb _ _ c.if-from-i.true)

pub returns-else-from-i : goal.returns-else-from-i
unfolding acceleration_used
returns-else-from-i c = simp (ne_eqb _ _ c.if-i-eq4.false, ← c.from.ensures, lt-leb _ _ c.if-from-i.false)
