-- `triple_used`.
use borrow.Author.Tests.{le-ltb, lt-ltb}
use Rattle.stored.specs.Layout.{triple_used}
use Rattle.stored.proofs.layout.triple_used.Goals as goal

pub returns-then-q-lt9 : goal.returns-then-q-lt9
unfolding triple_used
returns-then-q-lt9 c = simp (c.place_used.ensures, lt-ltb _ _ c.if-q-lt9.true)

pub returns-then-q-lt18 : goal.returns-then-q-lt18
unfolding triple_used
returns-then-q-lt18 c = simp (c.place_used-then-q-lt18.ensures, lt-ltb _ _ c.if-q-lt18.true, le-ltb _ _ c.if-q-lt9.false)

pub returns-then-q-lt27 : goal.returns-then-q-lt27
unfolding triple_used
returns-then-q-lt27 c = simp (c.acceleration_used.ensures, lt-ltb _ _ c.if-q-lt27.true, le-ltb _ _ c.if-q-lt18.false, le-ltb _ _ c.if-q-lt9.false)

pub returns-then-q-lt30 : goal.returns-then-q-lt30
unfolding triple_used
returns-then-q-lt30 c = simp (c.from.ensures, lt-ltb _ _ c.if-q-lt30.true, le-ltb _ _ c.if-q-lt27.false, le-ltb _ _ c.if-q-lt18.false, le-ltb _ _ c.if-q-lt9.false)

pub returns-then-q-lt32 : goal.returns-then-q-lt32
unfolding triple_used
returns-then-q-lt32 c = simp (lt-ltb _ _ c.if-q-lt32.true, le-ltb _ _ c.if-q-lt30.false, le-ltb _ _ c.if-q-lt27.false, le-ltb _ _ c.if-q-lt18.false, le-ltb _ _ c.if-q-lt9.false)

pub returns-then-q-lt34 : goal.returns-then-q-lt34
unfolding triple_used
returns-then-q-lt34 c = simp (lt-ltb _ _ c.if-q-lt34.true, le-ltb _ _ c.if-q-lt32.false, le-ltb _ _ c.if-q-lt30.false, le-ltb _ _ c.if-q-lt27.false, le-ltb _ _ c.if-q-lt18.false, le-ltb _ _ c.if-q-lt9.false)

pub returns-then-q-lt36 : goal.returns-then-q-lt36
unfolding triple_used
returns-then-q-lt36 c = simp (lt-ltb _ _ c.if-q-lt36.true, le-ltb _ _ c.if-q-lt34.false, le-ltb _ _ c.if-q-lt32.false, le-ltb _ _ c.if-q-lt30.false, le-ltb _ _ c.if-q-lt27.false, le-ltb _ _ c.if-q-lt18.false, le-ltb _ _ c.if-q-lt9.false)

pub returns-then-q-lt38 : goal.returns-then-q-lt38
unfolding triple_used
returns-then-q-lt38 c = simp (lt-ltb _ _ c.if-q-lt38.true, le-ltb _ _ c.if-q-lt36.false, le-ltb _ _ c.if-q-lt34.false, le-ltb _ _ c.if-q-lt32.false, le-ltb _ _ c.if-q-lt30.false, le-ltb _ _ c.if-q-lt27.false, le-ltb _ _ c.if-q-lt18.false, le-ltb _ _ c.if-q-lt9.false)

pub returns : goal.returns
unfolding triple_used
returns c = simp (le-ltb _ _ c.if-q-lt38.false, le-ltb _ _ c.if-q-lt36.false, le-ltb _ _ c.if-q-lt34.false, le-ltb _ _ c.if-q-lt32.false, le-ltb _ _ c.if-q-lt30.false, le-ltb _ _ c.if-q-lt27.false, le-ltb _ _ c.if-q-lt18.false, le-ltb _ _ c.if-q-lt9.false)
