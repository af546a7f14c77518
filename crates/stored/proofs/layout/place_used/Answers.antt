-- `place_used`.
use borrow.Author.Tests.{lt-leb, le-leb}
use Rattle.stored.specs.Layout.{place_used}
use Rattle.stored.proofs.layout.place_used.Goals as goal

pub returns-then-from-i : goal.returns-then-from-i
unfolding place_used
returns-then-from-i c = simp (c.from-then-from-i.ensures, ← c.from.ensures, le-leb _ _ c.if-from-i.true)

pub returns-else-from-i : goal.returns-else-from-i
unfolding place_used
returns-else-from-i c = simp (← c.from.ensures, lt-leb _ _ c.if-from-i.false)
