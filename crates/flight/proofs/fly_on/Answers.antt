-- `fly_on` is `flown_on`: what is left to do, from the flight with its parts in their places, leads where the whole leads.
use mathlib.Core.Path.{◌≡◌, refl, sym, ap, ◌∙◌}
use Prim.Native.Nat.{ℕ, suc, ◌-◌, ◌+◌, ◌<◌}
use native.Mathlib.Omega.{arith}
use Rattle.flight.specs.Flight.{Flown, piece, flown_on}
use Rattle.flight.specs.Parts.{together}
use Rattle.flight.proofs.Pieces.{flown_stops, flown_none, flown_over, ready_is}
use Rattle.flight.proofs.Turns.{whole, turned_low, turned_plainly, turned_again, turned_on}
use Rattle.flight.proofs.fly_on.Goals as goal
use Rattle.flight.proofs.fly_on.Goals.{else-loop-test, then-loop-test+then-not-is_ready}

one_less : (n : ℕ) → n < piece → piece - n ≡ suc (piece - (n + 1))
one_less n h = omega arith

-- ---- no question is open
pub returns-in_default : goal.returns-in_default
unfolding flown_on
returns-in_default c =
    let h = sym (flown_over c.args.flight.next c.args.flight c.args.out.now piece _ c.in_default.is) in
    (ap (λ (g : Flown). g.flight) h, ap (λ (g : Flown). g.out) h)

pub loop-init : goal.loop-init
loop-init c = (refl, rw (c.parts_of-parts.ensures, whole c.args.flight c.in-Asks.first c.in-Asks.is))

-- ---- too low
pub returns-in_default-answer_at : goal.returns-in_default-answer_at
unfolding flown_on
returns-in_default-answer_at c =
    let h = sym (turned_low _ _ _ c.loop.f c.loop.parts _ (one_less _ c.loop-test.true) (sym c.is_ready.ensures ∙ c.if-not-is_ready.false) (sym c.in_default-answer_at.ensures)) ∙ c.loop.invariant.1 in
    (c.land_low.ensures ∙ rw c.together.ensures (ap (λ (g : Flown). g.flight) h), ap (λ (g : Flown). g.out) h)

-- ---- on, and the plain way
pub step_on-parts-requires : goal.step_on-parts-requires
step_on-parts-requires c = (ready_is _ _ _ _ (sym c.is_ready.ensures ∙ c.if-not-is_ready.false)).2

pub answer_plainly-f-requires : goal.answer_plainly-f-requires
unfolding together
answer_plainly-f-requires c = rw c.together-in-Away.ensures (ready_is _ _ _ _ (sym c.is_ready.ensures ∙ c.if-not-is_ready.false)).2

pub returns-in_default-phase : goal.returns-in_default-phase
unfolding flown_on
returns-in_default-phase c =
    let done = c.answer_plainly-f in
    let h =
    sym (flown_over c.args.flight.next done.result done.new.out (piece - (c.loop.counter + 1)) _ c.in_default-phase.is)
    ∙ rw (done.ensures.0, done.ensures.1, c.together-in-Away.ensures)
    (sym (turned_plainly _ _ _ c.loop.f c.loop.parts _ (one_less _ c.loop-test.true) (sym c.is_ready.ensures ∙ c.if-not-is_ready.false) _ (sym c.in-Some.ensures))
    ∙ c.loop.invariant.1) in
    (ap (λ (g : Flown). g.flight) h, ap (λ (g : Flown). g.out) h)

pub loop-preserved-in-Again : goal.loop-preserved-in-Again
loop-preserved-in-Again c = (
  c.loop.invariant.0,
  rw c.try_again-parts.ensures
      (sym (turned_again _ _ _ c.loop.f c.loop.parts _ (one_less _ c.loop-test.true) (sym c.is_ready.ensures ∙ c.if-not-is_ready.false) _ (sym c.in-Some.ensures) _ _ c.in-Again.ensures)
      ∙ c.loop.invariant.1),
)

pub loop-preserved-in-On : goal.loop-preserved-in-On
loop-preserved-in-On c = (
  omega (arith, c.step_on-parts.auto, c.loop.invariant.0),
  rw (c.step_on-parts.ensures.0, c.step_on-parts.ensures.1)
      (sym (turned_on _ _ _ c.loop.f c.loop.parts _ (one_less _ c.loop-test.true) (sym c.is_ready.ensures ∙ c.if-not-is_ready.false) _ (sym c.in-Some.ensures) _ _ _ c.in-On.ensures)
      ∙ c.loop.invariant.1),
)

pub loop-preserved : goal.loop-preserved
loop-preserved c =
    let done = c.answer_plainly-f in (
      omega (arith, done.auto, c.loop.invariant.0),
      rw (c.parts_of-parts-in-Away.ensures, whole done.result c.in-Asks-phase.question c.in-Asks-phase.is, done.ensures.0, done.ensures.1, c.together-in-Away.ensures)
          (sym (turned_plainly _ _ _ c.loop.f c.loop.parts _ (one_less _ c.loop-test.true) (sym c.is_ready.ensures ∙ c.if-not-is_ready.false) _ (sym c.in-Some.ensures))
          ∙ c.loop.invariant.1),
    )

-- ---- no further question is answered here
pub returns : goal.returns
unfolding flown_on together
returns c =
    let stops : record { flight = together c.loop.f c.loop.parts; out = c.loop.out } ≡ flown_on c.args.flight c.args.out.now = elim c.loop-test.branch [
      | else-loop-test w ↦ sym (flown_none _ _ _ (piece - c.loop.counter) (omega (arith, w.loop-test.false))) ∙ c.loop.invariant.1
      | then-loop-test+then-not-is_ready w ↦ sym (flown_stops _ _ _ (piece - c.loop.counter) (sym w.is_ready.ensures ∙ w.if-not-is_ready.true)) ∙ c.loop.invariant.1
    ] in
    (c.together-2.ensures ∙ ap (λ (g : Flown). g.flight) stops, ap (λ (g : Flown). g.out) stops)
