-- A run of which every number is the machine's stays one, whatever is answered.
use Rattle.std.proofs.Common.{Ok, Err}
use Prim.Native.Nat.{ℕ, ◌+◌, ◌-◌}
use mathlib.Core.Bool.{Bool, true, false, cond}
use mathlib.Core.List.{List}
use lib.Dec.{eqb, ltb}
use lib.ListN.{length}
use lib.Ieee.{Float, binary64}
use lib.Ieee.Fits.{mul-fits}
use Rattle.triple.specs.declared.Triple.{Triple}
use Rattle.triple.specs.declared.Sample.{Sample}
use Rattle.triple.specs.Arithmetic.{zeros}
use Rattle.sums.specs.Sums.{corrected_state}
use Rattle.startup.specs.Passes.{is_settled}
use Rattle.plan.specs.declared.Settings.{Settings}
use Rattle.plan.specs.declared.Plan.{Plan}
use Rattle.plan.specs.Limits.{wants_samples}
use Rattle.plan.specs.Plan.{plan_of}
use Rattle.plan.specs.Verdict.{Verdict, verdict_on}
use Rattle.run.specs.declared.Count.{Count}
use Rattle.run.specs.declared.Body.{Body}
use Rattle.run.specs.declared.Run.{Run}
use Rattle.run.specs.declared.waiting.Stage.{Stage}
use Rattle.run.specs.declared.waiting.Stage.TheVariants.{First}
use Rattle.run.specs.declared.waiting.Waiting.{Waiting}
use Rattle.run.specs.declared.waiting.Waiting.TheVariants.{Epoch, Forward, Backward, Survey, Pass, Step, Tail, TailSample, Ended, Unknown}
use Rattle.conditions.specs.Conditions.{is_due, is_tail, is_at_rest}
use Rattle.run.specs.Waiting.{waits_at, is_last, stage_after, next_point}
use Rattle.run.specs.Moves.{surveyed, kept, end_of, moved_on, moved_back, pass_begun, renewed, pass_made, launched, predicted, tried, committed, end_of_tail}
use Rattle.run.specs.Samples.{Room, has_room}
use Rattle.run.specs.Sound.{is_sound}
use Rattle.gauss_jackson.specs.declared.Answered.{Answered}
use Rattle.gauss_jackson.specs.declared.Outcome.{Outcome}
use Rattle.gauss_jackson.specs.Answers.{no_plan, ended_run, ending, asking, onward, Given, with_stored, sampling, startup_ended, step_ended, passes_on, pass_ended, rk4_taken, forward_ended, backward_ended, tail_ended, survey_taken, pass_taken, step_taken, last_taken, answered_at, refusing, answered, started_by, started, next_count}
use Rattle.resumed.proofs.Good.{FitPlan, Good, surveyed_good, kept_good, on_good, back_good, begun_good, renewed_good, made_good, launched_good, predicted_good, tried_good, committed_good, fresh_good}
use Rattle.resumed.proofs.Fitting.{F, Fit, nought_fits, zeros_fit, end_fit, corrected_fit}

abbrev pub GoodRun : Run → Type 0
GoodRun run = Good run.body

pub record GoodA (x : Answered) : Type 0 where
  pub body : Good x.run.body

pub record GoodT (t : Given) : Type 0 where
  pub got : GoodA t.got

ended_good : (o : Outcome) → GoodA (ending o)
unfolding ending ended_run no_plan
ended_good o = record { body = fresh_good _ zeros zeros (record { step = nought_fits; corrector = nought_fits; startup = nought_fits; t0 = nought_fits; tf = nought_fits; h = nought_fits }) zeros_fit zeros_fit }

asking_good : (w : Waiting) (c : Count) (b : Body) → Good b → GoodA (asking w c b)
unfolding asking
asking_good w c b g = record { body = g }

either : (d : Bool) (x y : Answered) → GoodA x → GoodA y → GoodA (cond d x y)
either true x y g h = g
either false x y g h = h

either_t : (d : Bool) (x y : Given) → GoodT x → GoodT y → GoodT (cond d x y)
either_t true x y g h = g
either_t false x y g h = h

onward_good : (c : Count) (b : Body) → Good b → GoodA (onward c b)
unfolding onward
onward_good c b g =
    either (is_due b.plan b.track.t) _ _
    (either (ltb b.track.steps b.plan.settings.max_steps) _ _ (either (is_tail b.plan b.track.t) _ _ (asking_good (Tail First) c b g) (asking_good (Step 0) c (predicted b) (predicted_good b g))) (ended_good _))
    (ended_good _)

sampling_good : (n : ℕ) (ss : List Sample) (b : Body) (out : Room) (x : Answered) → GoodA x → GoodT (sampling n ss b out x)
unfolding sampling with_stored
sampling_good n ss b out x g = either_t (wants_samples b.plan.settings) _ _ (either_t (has_room n (length ss) out) _ _ (record { got = record { body = g.body } }) (record { got = ended_good _ })) (record { got = g })

startup_ended_good : (c : Count) (b : Body) (out : Room) → Good b → GoodT (startup_ended c b out)
unfolding startup_ended
startup_ended_good c b out g = sampling_good _ _ _ _ _ (onward_good c (launched b) (launched_good b g))

step_ended_good : (c : Count) (b : Body) (out : Room) → Good b → GoodT (step_ended c b out)
unfolding step_ended
step_ended_good c b out g = sampling_good _ _ _ _ _ (onward_good c b g)

passes_on_good : (c : Count) (b : Body) (out : Room) → Good b → GoodT (passes_on c b out)
unfolding passes_on
passes_on_good c b out g = either_t (ltb b.startup_iters b.plan.settings.max_startup_iters) _ _ (record { got = asking_good (Pass 0) c (pass_begun b) (begun_good b g) }) (startup_ended_good c b out g)

pass_ended_good : (c : Count) (b : Body) (out : Room) → Good b → GoodT (pass_ended c b out)
unfolding pass_ended
pass_ended_good c b out g = either_t (is_settled b.plan.settings.startup_tol b.widest) _ _ (startup_ended_good c (pass_made b) out (made_good b g)) (passes_on_good c (pass_made b) out (made_good b g))

rk4_good : (w : Stage → Waiting) (s : Stage) (c : Count) (b : Body) (x : Triple) (y : Answered) → Good b → Fit x → GoodA y → GoodA (rk4_taken w s c b x y)
unfolding rk4_taken
rk4_good w s c b x y g h k = either (is_last s) y _ k (asking_good (w (stage_after s)) c (kept s b x) (kept_good b g s x h))

forward_good : (i : ℕ) (c : Count) (b : Body) (x : Triple) → Good b → GoodA (forward_ended i c b x)
unfolding forward_ended
forward_good i c b x g =
    either (ltb i 7) _ _ (asking_good (Forward (i + 1) First) c (moved_on i b x) (on_good b g i x)) (asking_good (Backward 4 First) c (moved_on i b x) (on_good b g i x))

backward_good : (i : ℕ) (c : Count) (b : Body) (x : Triple) → Good b → GoodA (backward_ended i c b x)
unfolding backward_ended
backward_good i c b x g =
    either (ltb 1 i) _ _ (asking_good (Backward (i - 1) First) c (moved_back i b x) (back_good b g i x)) (asking_good (Survey 0) c (moved_back i b x) (back_good b g i x))

step_good : (n : ℕ) (c : Count) (b : Body) (x : Triple) (out : Room) → Good b → Fit x → GoodT (step_taken n c b x out)
unfolding step_taken
step_good n c b x out g h =
    let y = corrected_state b.plan.h b.track.sums b.trial.fixed x in
    either_t (ltb n b.plan.settings.max_corrector_iters) _ _
    (either_t (is_at_rest b.plan.settings.corrector_tol b.trial.state y) _ _ (step_ended_good c (committed b y x) out (committed_good b g y x (corrected_fit _ _ _ _) h)) (record { got = asking_good (Step (n + 1)) c (tried b y) (tried_good b g y (corrected_fit _ _ _ _)) }))
    (step_ended_good c (committed b b.trial.state x) out (committed_good b g b.trial.state x g.trial.state h))

tail_good : (c : Count) (b : Body) (x : Triple) → Good b → GoodA (tail_ended c b x)
unfolding tail_ended
tail_good c b x g =
    either (wants_samples b.plan.settings) _ _ (asking_good TailSample c (tried b (end_of_tail b x)) (tried_good b g (end_of_tail b x) (unfold end_of_tail end_of in end_fit _ _ _ _ _ _))) (ended_good _)

answered_at_good : (w : Waiting) (c : Count) (b : Body) (x : Triple) (out : Room) → Good b → Fit x → GoodT (answered_at w c b x out)
unfolding answered_at survey_taken pass_taken last_taken
answered_at_good Epoch c b x out g h = record { got = asking_good (Forward 4 First) c (surveyed 4 b x) (surveyed_good b g 4 x h) }
answered_at_good (Forward i s) c b x out g h = record { got = rk4_good (λ (t : Stage). Forward i t) s c b x _ g h (forward_good i c b x g) }
answered_at_good (Backward i s) c b x out g h = record { got = rk4_good (λ (t : Stage). Backward i t) s c b x _ g h (backward_good i c b x g) }
answered_at_good (Survey i) c b x out g h =
    either_t (ltb i 8) _ _ (record { got = asking_good (Survey (next_point i)) c (surveyed i b x) (surveyed_good b g i x h) }) (passes_on_good c (surveyed i b x) out (surveyed_good b g i x h))
answered_at_good (Pass i) c b x out g h =
    either_t (ltb i 8) _ _ (record { got = asking_good (Pass (next_point i)) c (renewed i b x) (renewed_good b g i x h) }) (pass_ended_good c (renewed i b x) out (renewed_good b g i x h))
answered_at_good (Step n) c b x out g h = step_good n c b x out g h
answered_at_good (Tail s) c b x out g h = record { got = rk4_good (λ (t : Stage). Tail t) s c b x _ g h (tail_good c b x g) }
answered_at_good TailSample c b x out g h = sampling_good _ _ _ _ _ (ended_good _)
answered_at_good Ended c b x out g h = record { got = ended_good _ }
answered_at_good Unknown c b x out g h = record { got = ended_good _ }

pub answered_good : (run : Run) (n : ℕ) (x : Triple) (out : Room) → GoodRun run → Fit x → GoodT (answered run n x out)
unfolding answered refusing
answered_good run n x out g h =
    either_t (is_sound run) _ _ (either_t (eqb run.mark.count.number n) _ _ (answered_at_good (waits_at run.mark) (next_count run.mark.count) run.body x out g h) (record { got = record { body = g } })) (record { got = record { body = g } })

started_by_good : (v : Verdict) (p : Plan) (r0 v0 : Triple) → FitPlan p → Fit r0 → Fit v0 → GoodA (started_by v p r0 v0)
unfolding started_by
started_by_good (Ok u) p r0 v0 h r v = asking_good Epoch _ _ (fresh_good p r0 v0 h r v)
started_by_good (Err e) p r0 v0 h r v = ended_good _

pub started_good : (s : Settings) (t0 tf : Float) (r0 v0 : Triple) → F s.h → F s.corrector_tol → F s.startup_tol → F t0 → F tf → Fit r0 → Fit v0 → GoodA (started s t0 tf r0 v0)
unfolding started plan_of
started_good s t0 tf r0 v0 a b c d e r v =
    started_by_good (verdict_on (plan_of s t0 tf)) (plan_of s t0 tf) r0 v0 (record { step = a; corrector = b; startup = c; t0 = d; tf = e; h = mul-fits binary64 _ _ }) r v
