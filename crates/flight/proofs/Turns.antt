-- One turn of a piece by the parts of a flight: what each way of the code makes of them is one answer.
use mathlib.Core.Path.{◌≡◌, refl, sym, ap, ◌∙◌, subst}
use Prim.Native.Nat.{ℕ, suc}
use native.Mathlib.Nat.{add-zero}
use mathlib.Core.Bool.{true}
use mathlib.Core.List.{List}
use lib.ListN.{length}
use lib.Ieee.{Float}
use Rattle.std.specs.Prelude.{Some, None}
use Rattle.triple.specs.declared.Triple.{Triple}
use Rattle.triple.specs.declared.State.{State}
use Rattle.plan.specs.declared.Plan.{Plan}
use Rattle.run.specs.declared.Mark.{Mark}
use Rattle.run.specs.Samples.{numbers_of}
use Rattle.gauss_jackson.specs.declared.Question.{Question}
use Rattle.fastpath.specs.declared.Look.{Look}
use Rattle.fastpath.specs.declared.Look.TheVariants.{Again, On}
use Rattle.fastpath.specs.Looking.{looked_at}
use Rattle.fastpath.specs.Moving.{asked_again, made_step, kept_step}
use Rattle.fastpath.proofs.SameAnswer.{same_again, same_on}
use Rattle.point_mass.specs.Force.{answer_at}
use Rattle.flight.specs.declared.Phase.{Phase}
use Rattle.flight.specs.declared.Phase.TheVariants.{Asks}
use Rattle.flight.specs.declared.Flight.{Flight}
use Rattle.flight.specs.declared.parts.Parts.{Parts}
use Rattle.flight.specs.Flight.{phase_of, flight_of, Flown, landed_low, flown_after, answered_by, answered_once, is_ready, flown_by}
use Rattle.flight.specs.Parts.{parts_of, together, tried_parts, stepped_parts}
use Rattle.flight.proofs.Pieces.{flown_more, flown_over}
use Rattle.flight.proofs.Once.{once_low, once_high}

pub whole : (f : Flight) (q : Question) → f.phase ≡ Asks q → together f (parts_of f q) ≡ f
unfolding together parts_of
whole f q e = ap (λ (h : Phase). record { run = f.run; next = f.next; phase = h }) (sym e)

module _ (from left next : ℕ) (f : Flight) (h : Parts) (numbers : List Float) (one : left ≡ suc next) (ready : is_ready true from h.next (length numbers) ≡ true) where
  abbrev Turned : Flight → List Float → Type 0
  Turned g out = flown_by left from (together f h) numbers ≡ flown_by next from g out

  to : (y : Flown) → Turned y.flight y.out → (z : Flown) → y ≡ z → Turned z.flight z.out
  to y t z e = subst (λ (y : Flown). Turned y.flight y.out) e t

  turned : Turned (answered_once from (together f h) numbers).flight (answered_once from (together f h) numbers).out
  unfolding together
  turned = flown_more from (together f h) numbers left next one ready

  pub turned_low : answer_at h.question.r ≡ None → flown_by left from (together f h) numbers ≡ record { flight = landed_low (together f h); out = numbers }
  unfolding together landed_low
  turned_low e = to _ turned _ (once_low from (together f h) numbers h.question refl e) ∙ flown_over from (landed_low (together f h)) numbers next _ refl

  module _ (a : Triple) (high : answer_at h.question.r ≡ Some a) where
    pub turned_plainly : Turned (answered_by h.question a from (together f h) numbers).flight (answered_by h.question a from (together f h) numbers).out
    unfolding together
    turned_plainly = to _ turned _ (once_high from (together f h) numbers h.question refl a high)

    abbrev p : Plan
    p = f.run.body.plan

    abbrev look : Look
    look = looked_at h.mark p h.track h.trial f.run.body.startup_iters h.question.number a from (length numbers)

    pub turned_again : (m : Mark) (y : State) → Again m y ≡ look → Turned (together f (tried_parts h (asked_again m y p h.track h.trial))) numbers
    unfolding answered_by flown_after flight_of phase_of together tried_parts numbers_of
    turned_again m y e =
        to _ turned_plainly (record { flight = together f (tried_parts h (asked_again m y p h.track h.trial)); out = numbers })
        (ap (flown_after h.next) (same_again (together f h).run h.question.number a from numbers m y e) ∙ rw (add-zero h.next))

    pub turned_on : (m : Mark) (y : State) (n : ℕ) → On m y n ≡ look
        → Turned (together f (stepped_parts h (made_step m y n p h.track h.a a))) (kept_step y n p h.track h.a a from numbers)
    unfolding answered_by flown_after flight_of phase_of together stepped_parts numbers_of
    turned_on m y n e =
        to _ turned_plainly
        (record { flight = together f (stepped_parts h (made_step m y n p h.track h.a a)); out = kept_step y n p h.track h.a a from numbers })
        (ap (flown_after h.next) (same_on (together f h).run h.question.number a from numbers m y n e))
