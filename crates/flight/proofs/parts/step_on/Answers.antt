-- `parts::step_on` is `stepped_parts` of what `make_step` gives: one sample at most, so that the next number does not wrap.
use Prim.Native.Nat.{◌≤◌}
use mathlib.Core.Bool.{Bool, true, false}
use native.Mathlib.Omega.{arith}
use Rattle.fastpath.specs.Moving.{stored_by, made_step}
use Rattle.flight.specs.Parts.{stepped_parts}
use Rattle.flight.proofs.parts.step_on.Goals as goal

one_at_most : (wanted : Bool) → stored_by wanted ≤ 1
unfolding stored_by
one_at_most true = omega arith
one_at_most false = omega arith

pub overflow_add-result : goal.overflow_add-result
unfolding made_step
overflow_add-result c =
    let h : c.make_step-done.result.stored ≤ 1 = rw c.make_step-done.ensures.0 (one_at_most _) in
    omega (arith, h, c.requires)

pub returns : goal.returns
unfolding stepped_parts
returns c =
    (simp c.make_step-done.ensures.0, c.make_step-done.ensures.1)
