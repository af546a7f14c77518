-- `is_too_near` is `is_too_near`.
use lib.Ieee.{of_bits, of_int}
use Rattle.plan.specs.Plan.{is_too_near}
use Rattle.plan.proofs.is_too_near.Goals as goal

pub returns-then-p : goal.returns-then-p
unfolding is_too_near of_bits
returns-then-p c = simp c.if-p.true

pub returns : goal.returns
unfolding is_too_near of_bits of_int
returns c = simp (c.if-p.false, c.abs.ensures)
