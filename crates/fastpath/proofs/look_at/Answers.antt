-- `look_at` is `looked_at`; no count wraps, since the step is open.
use Rattle.std.proofs.Common.{◌≡◌, Bool, true, false, cond, sym, refl, ◌∙◌, arith, eq-eqb, ne_eqb}
use Rattle.triple.specs.declared.State.{State}
use Rattle.run.proofs.Counts.{next_is}
use Rattle.run.proofs.OpenStep.{open_few}
use Rattle.fastpath.specs.declared.judging.Reached.TheVariants.{Made, Open}
use Rattle.fastpath.specs.Looking.{reach, looked_at}
use Rattle.fastpath.proofs.look_at.Goals as goal

made_is : (d : Bool) (x y : State) → Made y ≡ cond d (Made x) (Open x) → (d ≡ true) × (x ≡ y)
made_is true x y e = (refl, cc)
made_is false x y e = absurd (cc)

open_is : (d : Bool) (x y : State) → Open y ≡ cond d (Made x) (Open x) → (d ≡ false) × (x ≡ y)
open_is true x y e = absurd (cc)
open_is false x y e = (refl, cc)

pub returns-then-not-is_open_step : goal.returns-then-not-is_open_step
unfolding looked_at
returns-then-not-is_open_step c = rw (sym c.is_open_step.ensures ∙ c.if-not-is_open_step.true) c.look_away.ensures

pub returns-then-mark-number : goal.returns-then-mark-number
unfolding looked_at
returns-then-mark-number c = rw (sym c.is_open_step.ensures ∙ c.if-not-is_open_step.false, ne_eqb _ _ c.if-mark-number.true) c.look_away-then-mark-number.ensures

pub look_on-requires : goal.look_on-requires
look_on-requires c = omega (arith, (open_few _ _ _ _ (sym c.is_open_step.ensures ∙ c.if-not-is_open_step.false)).steps)

pub look_again-requires : goal.look_again-requires
look_again-requires c = omega (arith, (open_few _ _ _ _ (sym c.is_open_step.ensures ∙ c.if-not-is_open_step.false)).passes)

pub returns-in-Made : goal.returns-in-Made
unfolding looked_at reach
returns-in-Made c =
    let made = made_is _ _ _ c.in-Made.ensures in
    rw (sym c.is_open_step.ensures ∙ c.if-not-is_open_step.false, eq-eqb _ _ c.if-mark-number.false, made.0, made.1, ← c.next-count.ensures ∙ next_is c.args.mark.count (open_few _ _ _ _ (sym c.is_open_step.ensures ∙ c.if-not-is_open_step.false)).answers) c.look_on.ensures

pub returns-in-Open : goal.returns-in-Open
unfolding looked_at reach
returns-in-Open c =
    let left = open_is _ _ _ c.in-Open.ensures in
    rw (sym c.is_open_step.ensures ∙ c.if-not-is_open_step.false, eq-eqb _ _ c.if-mark-number.false, left.0, left.1, ← c.next-count.ensures ∙ next_is c.args.mark.count (open_few _ _ _ _ (sym c.is_open_step.ensures ∙ c.if-not-is_open_step.false)).answers) c.look_again.ensures
