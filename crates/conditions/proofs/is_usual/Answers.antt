-- `is_usual` is `is_usual`.
use lib.Ieee.{of_bits, round}
use Rattle.conditions.specs.Usual.{vast, is_usual}
use Rattle.conditions.proofs.is_usual.Goals as goal

pub returns-then-new : goal.returns-then-new
unfolding is_usual vast of_bits round
returns-then-new c = simp (c.if-tol.true, c.if-tol-2.true, c.if-new.true)

pub returns-else-new : goal.returns-else-new
unfolding is_usual vast of_bits round
returns-else-new c = simp (c.if-tol.true, c.if-tol-2.true, c.if-new.false)

pub returns-else-tol-2 : goal.returns-else-tol-2
unfolding is_usual vast of_bits round
returns-else-tol-2 c = simp (c.if-tol.true, c.if-tol-2.false)

pub returns-else-tol : goal.returns-else-tol
unfolding is_usual vast of_bits round
returns-else-tol c = simp c.if-tol.false
