-- `is_at_rest` is `is_at_rest`.
use mathlib.Core.Path.{sym, ◌∙◌}
use lib.Ieee.{of_bits}
use Rattle.conditions.specs.Conditions.{is_at_rest}
use Rattle.conditions.proofs.Resting.{rests_not}
use Rattle.conditions.proofs.is_at_rest.Goals as goal

pub returns-then-is_still : goal.returns-then-is_still
unfolding is_at_rest
returns-then-is_still c = simp (sym c.is_still.ensures ∙ c.if-is_still.true, c.is_still-then-is_still.ensures)

pub returns-else-is_still : goal.returns-else-is_still
unfolding is_at_rest
returns-else-is_still c = simp (sym c.is_still.ensures ∙ c.if-is_still.false)

pub returns-else-tol : goal.returns-else-tol
unfolding of_bits
returns-else-tol c = sym (rests_not _ _ _ c.if-tol.false)
