-- `is_used`.
use borrow.Author.Tests.{eq-eqb, ne_eqb, le-ltb, lt-ltb}
use Rattle.stored.specs.Layout.{used}
use Rattle.stored.proofs.layout.is_used.Goals as goal

pub returns-then-k-lt116 : goal.returns-then-k-lt116
unfolding used
returns-then-k-lt116 c = simp (lt-ltb _ _ c.if-k-lt116.true, eq-eqb _ _ c.if-k-eq38.true)

pub returns-then-k-eq38 : goal.returns-then-k-eq38
unfolding used
returns-then-k-eq38 c = simp (le-ltb _ _ c.if-k-lt116.false, eq-eqb _ _ c.if-k-eq38.true)

pub returns : goal.returns
unfolding used
returns c = simp (c.triple_used.ensures, ne_eqb _ _ c.if-k-eq38.false)
