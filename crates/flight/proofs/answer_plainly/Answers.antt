-- `answer_plainly` is `answered_by`.
use mathlib.Core.Path.{◌∙◌}
use Prim.Native.Nat.{◌≤◌}
use native.Mathlib.Omega.{arith}
use Rattle.flight.specs.Flight.{flown_after, answered_by}
use Rattle.flight.proofs.Stored.{stored_few}
use Rattle.flight.proofs.answer_plainly.Goals as goal

pub overflow_add-next : goal.overflow_add-next
overflow_add-next c =
    let h : c.answer-done.result.stored ≤ 5 = rw c.answer-done.ensures.0 (stored_few _ _ _ _) in
    omega (arith, h, c.requires)

pub returns : goal.returns
unfolding answered_by flown_after
returns c = (c.flight_of.ensures ∙ rw c.answer-done.ensures.0, c.answer-done.ensures.1)
