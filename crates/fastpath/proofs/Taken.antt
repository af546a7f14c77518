-- What the plain way makes of an answer at a step's end, by what was judged.
use Rattle.std.proofs.Common.{◌≡◌, ℕ, ◌+◌, Bool, true, false, cond, ltb, List, length, sym, refl}
use mathlib.Core.Bool.{false≢true}
use lib.Ieee.{Float}
use borrow.Author.Tests.{not-true}
use Rattle.triple.specs.declared.Triple.{Triple}
use Rattle.triple.specs.declared.State.{State}
use Rattle.sums.specs.Sums.{corrected_state}
use Rattle.plan.specs.Limits.{wants_samples}
use Rattle.run.specs.declared.Count.{Count}
use Rattle.run.specs.declared.Body.{Body}
use Rattle.run.specs.declared.waiting.Waiting.TheVariants.{Step}
use Rattle.conditions.specs.Conditions.{is_due, is_tail, is_at_rest}
use Rattle.run.specs.Moves.{tried, committed, predicted}
use Rattle.run.specs.Samples.{Room, tens, is_placed, has_room, has_place, put, put_all, step_sample, kept_sample}
use Rattle.run.proofs.Counts.{both}
use Rattle.gauss_jackson.specs.declared.Answered.{Answered}
use Rattle.gauss_jackson.specs.Answers.{Given, quiet, asking, with_stored, sampling, onward, step_ended, step_taken}
use Rattle.fastpath.specs.Looking.{reached, is_made, is_followed}

module _ (n : ℕ) (c : Count) (b : Body) (a : Triple) (out : Room) where
  abbrev after : State
  after = corrected_state b.plan.h b.track.sums b.trial.fixed a

  abbrev rest : Bool
  rest = is_at_rest b.plan.settings.corrector_tol b.trial.state after

  abbrev taken : Bool → Bool → Given
  taken p q = cond p (cond q (step_ended c (committed b after a) out) (quiet (asking (Step (n + 1)) c (tried b after)) out)) (step_ended c (committed b b.trial.state a) out)

  open_by : (p : Bool) → cond p rest true ≡ false → taken p rest ≡ quiet (asking (Step (n + 1)) c (tried b (cond p after b.trial.state))) out
  open_by true e = go rest e
    where
      go : (q : Bool) → q ≡ false → taken true q ≡ quiet (asking (Step (n + 1)) c (tried b after)) out
      go q f = rw f
  open_by false e = absurd (false≢true (sym e))

  made_by : (p : Bool) → cond p rest true ≡ true → taken p rest ≡ step_ended c (committed b (cond p after b.trial.state) a) out
  made_by true e = go rest e
    where
      go : (q : Bool) → q ≡ true → taken true q ≡ step_ended c (committed b after a) out
      go q f = rw f
  made_by false e = refl

  pub taken_again : is_made n b.plan b.track.sums b.trial a ≡ false → step_taken n c b a out ≡ quiet (asking (Step (n + 1)) c (tried b (reached n b.plan b.track.sums b.trial a))) out
  unfolding is_made reached step_taken
  taken_again e = open_by (ltb n b.plan.settings.max_corrector_iters) e

  pub taken_on : is_made n b.plan b.track.sums b.trial a ≡ true → step_taken n c b a out ≡ step_ended c (committed b (reached n b.plan b.track.sums b.trial a) a) out
  unfolding is_made reached step_taken
  taken_on e = made_by (ltb n b.plan.settings.max_corrector_iters) e

-- an answer that stores none, with the sample of a step, if wanted
abbrev told_by : (wanted : Bool) → Answered → Answered
told_by wanted x = record { run = x.run; outcome = x.outcome; stored = cond wanted 1 x.stored }

-- a step is made, a further one follows, and its sample has its place
pub ended_on : (c : Count) (b : Body) (from : ℕ) (l : List Float) → is_followed b.plan b.track.t b.track.steps from (length l) ≡ true
    → step_ended c b (tens from l)
    ≡ record {
      got = told_by (wants_samples b.plan.settings) (asking (Step 0) c (predicted b));
      out = tens from (kept_sample (wants_samples b.plan.settings) from b.track.steps (step_sample b.track b.a) l);
    }
unfolding is_followed has_place step_ended sampling with_stored onward kept_sample has_room put_all put
ended_on c b from l e =
    let h = both _ _ e in
    let i = both _ _ h.0 in
    let j = both _ _ i.0 in
    go (wants_samples b.plan.settings) (is_placed from b.track.steps 1 (length l)) (is_due b.plan b.track.t) (ltb b.track.steps b.plan.settings.max_steps) (is_tail b.plan b.track.t) j.0 j.1 i.1 (not-true _ h.1) _ _ _ _ _ _ _
  where
    go : (s p q r z : Bool) → cond s p true ≡ true → q ≡ true → r ≡ true → z ≡ false → (l m : List Float) (u : Given) (t1 t2 t3 t4 : Answered)
        → cond s (cond p (record { got = with_stored 1 (cond q (cond r (cond z t1 t2) t3) t4); out = tens from l }) u) (quiet (cond q (cond r (cond z t1 t2) t3) t4) (tens from m))
        ≡ record { got = told_by s t2; out = tens from (cond s (cond p l m) m) }
    go true p q r z e f g h l m u t1 t2 t3 t4 = rw (e, f, g, h)
    go false p q r z e f g h l m u t1 t2 t3 t4 = rw (f, g, h)
