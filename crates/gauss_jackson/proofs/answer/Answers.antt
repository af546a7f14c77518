-- `answer` is `answered`: 7, then 8, then the step.
use Rattle.std.proofs.Common.{◌≡◌, rules, List, sym, ap, ◌∙◌, refl, eq-eqb, ne_eqb}
use lib.Ieee.{Float}
use Rattle.run.specs.Samples.{Room, numbers_of}
use Rattle.run.specs.Rooms.{room_of}
use Rattle.run.specs.declared.samples.Room.{Room as Lent}
use Rattle.gauss_jackson.specs.Answers.{answered}
use Rattle.run.proofs.Counts.{next_is, evals_small, ready}
use Rattle.gauss_jackson.proofs.answer.Goals as goal

-- the numbers of a room that is left
left : (numbers : List Float) (m : Lent) (out : Room) → numbers ≡ m.numbers.now → room_of m ≡ out → numbers ≡ numbers_of out
unfolding numbers_of
left numbers m out e f = e ∙ ap numbers_of f

pub returns-then-not-is_sound : goal.returns-then-not-is_sound
unfolding answered numbers_of
returns-then-not-is_sound c = rw (sym c.is_sound.ensures ∙ c.if-not-is_sound.true) (c.refuse.ensures, refl)

pub returns-then-mark-number : goal.returns-then-mark-number
unfolding answered numbers_of
returns-then-mark-number c = rw (sym c.is_sound.ensures ∙ c.if-not-is_sound.false, ne_eqb _ _ c.if-mark-number.true) (c.refuse-then-mark-number.ensures, refl)

pub take-requires : goal.take-requires
take-requires c =
    rw c.waits_at.ensures (ready _ (sym c.is_sound.ensures ∙ c.if-not-is_sound.false))

pub returns : goal.returns
unfolding answered
returns c =
    rw (sym c.is_sound.ensures ∙ c.if-not-is_sound.false, eq-eqb _ _ c.if-mark-number.false, ← c.waits_at.ensures, ← next_is c.args.run.mark.count (evals_small _ (sym c.is_sound.ensures ∙ c.if-not-is_sound.false)), ← c.next.ensures)
    (c.take.ensures.0, left _ c.take.new.room _ (search rules) c.take.ensures.1.1)
