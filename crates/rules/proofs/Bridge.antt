-- What follows an accepted answer, as the tree has it: a question, the end, samples that fall due, and the heads of the loops.
-- the number of the next question is again the remainder
use mathlib.Core.Path.{◌≡◌, refl, ap, ◌∙◌}
use Prim.Native.Nat.{ℕ, ◌+◌, ◌%◌, ◌≤◌}
use native.Mathlib.Nat.{add-zero}
use native.Mathlib.Omega.{arith}
use mathlib.Core.Bool.{Bool, true, false, cond}
use mathlib.Core.List.{List, [], ◌∷◌}
use lib.Dec.{ltb}
use lib.ListN.{length}
use borrow.Author.Tests.{ltb-true, ltb-false}
use Rattle.triple.specs.declared.Sample.{Sample}
use Rattle.triple.specs.Finite.{is_finite}
use Rattle.refusals.specs.declared.Refusal.TheVariants.{MaxStepsExceeded, SampleRoom}
use Rattle.startup.specs.Passes.{is_settled}
use Rattle.plan.specs.declared.Plan.{Plan}
use Rattle.plan.specs.Limits.{are_within_limits, wants_samples}
use Rattle.plan.specs.Lawful.{is_dated, is_lawful}
use Rattle.run.specs.declared.Count.{Count}
use Rattle.run.specs.declared.Body.{Body}
use Rattle.run.specs.declared.waiting.Stage.TheVariants.{First}
use Rattle.run.specs.declared.waiting.Waiting.{Waiting}
use Rattle.run.specs.declared.waiting.Waiting.TheVariants.{Pass, Step, Tail}
use Rattle.run.specs.Limits.{numbering}
use Rattle.conditions.specs.Conditions.{is_due, is_tail}
use Rattle.run.specs.Tracks.{start_track}
use Rattle.run.specs.Waiting.{stage_from, waiting_at, waits_at}
use Rattle.run.specs.Moves.{fresh_body, pass_begun, pass_made, launched, predicted}
use Rattle.run.specs.Samples.{Room, has_room, put_all, start_samples, step_sample}
use Rattle.run.specs.Sound.{has_counts, is_sound}
use Rattle.run.proofs.Decoding.{read}
use Rattle.run.proofs.Counts.{Counts, SteppingBody, sound_at}
use Rattle.run.proofs.Moving.{Swept, pass_first, startup_done, step_first, tail_first}
use Rattle.gauss_jackson.specs.declared.Answered.{Answered}
use Rattle.gauss_jackson.specs.declared.Outcome.{Outcome}
use Rattle.gauss_jackson.specs.declared.Outcome.TheVariants.{Refused}
use Rattle.gauss_jackson.specs.Answers.{quiet, with_stored, next_count, no_plan, ended_run, ending, question_of, asking, solution_of, onward, sampling, startup_ended, step_ended, passes_on, pass_ended}
use Rattle.gauss_jackson.proofs.Stores.{onward_quiet}
use Rattle.rules.specs.Rules.{Course, stores, ends, exceeds, others, sampled, fly}
use Rattle.rules.specs.Walk.{refused, told, over, Stop, after_storing, settle}
use Rattle.rules.proofs.Rest.{sweeping, passed, renewing, loop, due, later, rest_at, rest, opened, line_of, seen}
use Rattle.rules.proofs.Loops.{renewing_is, passes_on_lem, march_on, tail_is, step_is}

pub numbered_on : (c : Count) → c.number ≡ c.evals % numbering → (next_count c).number ≡ (next_count c).evals % numbering
unfolding next_count
numbered_on c h = omega arith

-- ---- a question is asked: the line stands open at it
pub asked_is : (w : Waiting) (c : Count) (b : Body) (out : Room) → is_lawful b.plan ≡ true → c.number ≡ c.evals % numbering → Counts w c.evals b
    → seen (quiet (asking w c b) out) ≡ settle (rest_at w b) c.number c.evals out
unfolding seen asking question_of told settle line_of rest rest_at opened
asked_is w c b out l n h = simp (sound_at w c b l n h, read w c)

-- ---- the run is ended: nothing is open
ended_run_lem : is_sound ended_run ≡ false
unfolding is_sound has_counts waits_at waiting_at stage_from ended_run no_plan fresh_body is_lawful is_dated is_finite are_within_limits
ended_run_lem = refl

pub ended_is : (o : Outcome) (out : Room) → seen (quiet (ending o) out) ≡ record { said = told o; stored = 0; out = out; line = over }
unfolding seen ending line_of
ended_is o out = simp ended_run_lem

-- ---- samples are due, if wanted, and then x follows, which stores none
stored_is : (m : ℕ) (x : Answered) (out : Room) → x.stored ≡ 0 → seen (record { got = with_stored m x; out = out }) ≡ after_storing m (seen (quiet x out))
unfolding seen with_stored after_storing
stored_is m x out z = rw (z, add-zero m)

pub sampling_is : (i : ℕ) (ss : List Sample) (b : Body) (out : Room) (x : Answered) (t : Course) (n e : ℕ)
    → x.stored ≡ 0
    → ((out' : Room) → seen (quiet x out') ≡ settle t n e out')
    → seen (sampling i ss b out x) ≡ settle (sampled b.plan i ss t) n e out
unfolding sampling sampled settle told
sampling_is i ss b out x t n e z f = wanted (wants_samples b.plan.settings)
  where
    room : (d : Bool)
        → seen (cond d (record { got = with_stored (length ss) x; out = put_all i ss out }) (quiet (ending (Refused SampleRoom)) out))
        ≡ cond d (after_storing (length ss) (settle t n e (put_all i ss out))) (record { said = refused 6; stored = 0; out = out; line = over })
    room true = stored_is (length ss) x (put_all i ss out) z ∙ ap (λ (s : Stop). after_storing (length ss) s) (f (put_all i ss out))
    room false = ended_is (Refused SampleRoom) out

    wanted : (d : Bool)
        → seen (cond d (cond (has_room i (length ss) out) (record { got = with_stored (length ss) x; out = put_all i ss out }) (quiet (ending (Refused SampleRoom)) out)) (quiet x out))
        ≡ settle (cond d (stores i ss t) t) n e out
    wanted true = room (has_room i (length ss) out)
    wanted false = f out

pub wanted_is : (p : Plan) (i : ℕ) (ss : List Sample) (t : Course) → wants_samples p.settings ≡ true → sampled p i ss t ≡ stores i ss t
unfolding sampled
wanted_is p i ss t e = ap (λ (d : Bool). cond d (stores i ss t) t) e

-- ---- the head of the steps, which stores nothing
module _ (c : Count) (b : Body) (l : is_lawful b.plan ≡ true) (n : c.number ≡ c.evals % numbering) where
  onward_is : SteppingBody 0 c.evals b → (out : Room) → seen (quiet (onward c b) out) ≡ settle (loop b) c.number c.evals out
  unfolding onward settle solution_of told predicted
  onward_is s out =
      rw (march_on b.plan b.startup_iters b.track b.a, tail_is b, step_is b)
      (go (is_due b.plan b.track.t) (ltb b.track.steps b.plan.settings.max_steps) (is_tail b.plan b.track.t) refl)
    where
      go : (g d t : Bool) → ltb b.track.steps b.plan.settings.max_steps ≡ d
          → seen
          (quiet
          (cond g
          (cond d (cond t (asking (Tail First) c b) (asking (Step 0) c (predicted b))) (ending (Refused MaxStepsExceeded)))
          (ending (solution_of b.track.t b.track.state c b.track.steps b)))
          out)
          ≡ settle
          (cond g (cond d (cond t (rest_at (Tail First) b) (rest_at (Step 0) (predicted b))) exceeds) (ends b.track.t b.track.state b.track.steps b.startup_iters))
          c.number c.evals out
      go true true true q = asked_is (Tail First) c b out l n (tail_first c.evals b (ltb-true _ _ q) s)
      go true true false q = asked_is (Step 0) c (predicted b) out l n (step_first c.evals b (ltb-true _ _ q) s)
      go true false true q = ended_is (Refused MaxStepsExceeded) out
      go true false false q = ended_is (Refused MaxStepsExceeded) out
      go false true true q = ended_is (solution_of b.track.t b.track.state c b.track.steps b) out
      go false true false q = ended_is (solution_of b.track.t b.track.state c b.track.steps b) out
      go false false true q = ended_is (solution_of b.track.t b.track.state c b.track.steps b) out
      go false false false q = ended_is (solution_of b.track.t b.track.state c b.track.steps b) out

  pub step_ended_is : (out : Room) → SteppingBody 0 c.evals b → seen (step_ended c b out) ≡ settle (due b) c.number c.evals out
  unfolding step_ended due
  step_ended_is out s = sampling_is b.track.steps (step_sample b.track b.a ∷ []) b out (onward c b) (loop b) c.number c.evals (onward_quiet c b) (onward_is s)

-- ---- the end of the startup, the head of its passes, and the end of one
module _ (c : Count) (b : Body) (l : is_lawful b.plan ≡ true) (n : c.number ≡ c.evals % numbering) (s : Swept c.evals b) where
  startup_ended_is : (out : Room) → (b.startup_iters ≡ 0 → b.plan.settings.max_startup_iters ≡ 0)
      → seen (startup_ended c b out) ≡ settle (fly b.plan b.startup_iters b.places b.a) c.number c.evals out
  unfolding startup_ended fly launched start_track
  startup_ended_is out h =
      sampling_is 0 (start_samples b.plan b.places b.a) b out (onward c (launched b)) (loop (launched b)) c.number c.evals
      (onward_quiet c (launched b)) (onward_is c (launched b) l n (startup_done c.evals b s h))

  pub passes_on_is : (out : Room) → seen (passes_on c b out) ≡ settle (sweeping b b.places b.a) c.number c.evals out
  unfolding passes_on pass_begun later
  passes_on_is out = rw (passes_on_lem b.plan b.startup_iters b.places b.a (fly b.plan)) (go (ltb b.startup_iters b.plan.settings.max_startup_iters) refl)
    where
      go : (d : Bool) → ltb b.startup_iters b.plan.settings.max_startup_iters ≡ d
          → seen (cond d (quiet (asking (Pass 0) c (pass_begun b)) out) (startup_ended c b out))
          ≡ settle (cond d (renewing others (pass_begun b)) (fly b.plan b.startup_iters b.places b.a)) c.number c.evals out
      go true q = rw (renewing_is 0 (pass_begun b)) (asked_is (Pass 0) c (pass_begun b) out l n (pass_first c.evals b s (ltb-true _ _ q)))
      go false q = let h : b.plan.settings.max_startup_iters ≤ b.startup_iters = ltb-false _ _ q in startup_ended_is out (λ z. omega arith)

pub pass_ended_is : (c : Count) (b : Body) (out : Room) → is_lawful b.plan ≡ true → c.number ≡ c.evals % numbering → Swept c.evals (pass_made b)
    → seen (pass_ended c b out) ≡ settle (passed b b.a b.widest) c.number c.evals out
unfolding pass_ended pass_made
pass_ended_is c b out l n s = go (is_settled b.plan.settings.startup_tol b.widest)
  where
    go : (d : Bool)
        → seen (cond d (startup_ended c (pass_made b) out) (passes_on c (pass_made b) out))
        ≡ settle
        (cond d (fly b.plan (b.startup_iters + 1) b.places b.a) (sweeping (pass_made b) b.places b.a))
        c.number c.evals out
    go true = startup_ended_is c (pass_made b) l n s out (λ z. omega arith)
    go false = passes_on_is c (pass_made b) l n s out
