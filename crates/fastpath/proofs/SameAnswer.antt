-- The fast path is the plain way: where `look_at` says that an answer goes it, what changes, each part in its place, is all that `answered`
-- gives, the run, the outcome, the count of samples stored and the room. For any run, any number, any acceleration and any room.
use Rattle.std.proofs.Common.{◌≡◌, ℕ, ◌+◌, Bool, true, false, cond, ◌&&◌, eqb, List, length, sym, refl, ◌∙◌, subst}
use lib.Ieee.{Float, binary64, add}
use Rattle.triple.specs.declared.Triple.{Triple}
use Rattle.triple.specs.declared.State.{State}
use Rattle.plan.specs.declared.Plan.{Plan}
use Rattle.run.specs.declared.Mark.{Mark}
use Rattle.run.specs.declared.Count.{Count}
use Rattle.run.specs.declared.Track.{Track}
use Rattle.run.specs.declared.Run.{Run}
use Rattle.run.specs.declared.waiting.Waiting.TheVariants.{Step}
use Rattle.run.specs.Waiting.{mark_at}
use Rattle.run.specs.Tracks.{track_on, step_point}
use Rattle.run.specs.Questions.{question_at, end_point}
use Rattle.run.specs.Moves.{tried, committed, predicted}
use Rattle.run.specs.Samples.{Room, tens}
use Rattle.run.specs.Sound.{is_open_step}
use Rattle.run.proofs.Counts.{both}
use Rattle.run.proofs.OpenStep.{open_at_step, open_sound}
use Rattle.gauss_jackson.specs.Answers.{next_count, asking, question_of, step_taken, answered_at, answered}
use Rattle.fastpath.specs.declared.Look.{Look}
use Rattle.fastpath.specs.declared.Look.TheVariants.{Away, Again, On}
use Rattle.fastpath.specs.Looking.{reached, is_made, is_followed, looked_away, looked_again, looked_on, looked_at}
use Rattle.fastpath.specs.Moving.{asked_at, asked_again, track_by, stored_by, made_step, kept_step, tried_given, stepped_given}
use Rattle.fastpath.proofs.Taken.{taken_again, taken_on, ended_on}

module _ (run : Run) (number : ℕ) (a : Triple) (from : ℕ) (l : List Float) where
  abbrev out : Room
  out = tens from l

  abbrev p : Plan
  p = run.body.plan

  abbrev k : Track
  k = run.body.track

  abbrev c : Count
  c = next_count run.mark.count

  abbrev is_open : Bool
  is_open = is_open_step run.mark p run.body.startup_iters k.steps

  abbrev is_asked : Bool
  is_asked = eqb run.mark.count.number number

  abbrev made : Bool
  made = is_made run.mark.index p k.sums run.body.trial a

  abbrev end : State
  end = reached run.mark.index p k.sums run.body.trial a

  abbrev followed : Bool
  followed = is_followed p (add binary64 k.t p.h) (k.steps + 1) from (length l)

  -- what each look promises
  abbrev Same : Look → Type 0
  Same (Away m y n) = Unit {0}
  Same (Again m y) = answered run number a out ≡ tried_given run (asked_again m y p k run.body.trial) out
  Same (On m y n) = answered run number a out ≡ stepped_given run (made_step m y n p k run.body.a a) (tens from (kept_step y n p k run.body.a a from l))

  abbrev look : Bool → Bool → Bool → Look
  look o d f =
      cond o
      (cond d
      (cond f (On (mark_at (Step 0) c) end (k.steps + 1)) (Away (mark_at (Step 0) c) end (k.steps + 1)))
      (Again (mark_at (Step (run.mark.index + 1)) c) end))
      (Away run.mark run.body.trial.state k.steps)

  to_step : is_open && is_asked ≡ true → answered run number a out ≡ step_taken run.mark.index c run.body a out
  unfolding answered answered_at
  to_step e = let h = both _ _ e in rw (open_sound run h.0, h.1, open_at_step run h.0)

  same_by : (o d f : Bool) → is_open && is_asked ≡ o → made ≡ d → followed ≡ f → Same (look o d f)
  unfolding asked_again made_step kept_step stored_by track_by asked_at asking question_of question_at end_point step_point tried predicted committed track_on
  same_by true true true u v w = to_step u ∙ taken_on _ _ _ _ _ v ∙ ended_on c (committed run.body end a) from l w
  same_by true true false u v w = tt
  same_by true false f u v w = to_step u ∙ taken_again _ _ _ _ _ v
  same_by false d f u v w = tt

  same : Same (looked_at run.mark p k run.body.trial run.body.startup_iters number a from (length l))
  unfolding looked_at looked_on looked_again looked_away
  same = same_by (is_open && is_asked) made followed refl refl refl

  pub same_again : (m : Mark) (y : State) → Again m y ≡ looked_at run.mark p k run.body.trial run.body.startup_iters number a from (length l)
      → answered run number a out ≡ tried_given run (asked_again m y p k run.body.trial) out
  same_again m y is = subst Same (sym is) same

  pub same_on : (m : Mark) (y : State) (n : ℕ) → On m y n ≡ looked_at run.mark p k run.body.trial run.body.startup_iters number a from (length l)
      → answered run number a out ≡ stepped_given run (made_step m y n p k run.body.a a) (tens from (kept_step y n p k run.body.a a from l))
  same_on m y n is = subst Same (sym is) same
