-- What one call does: `started` and `answered` are what the contracts of `start` and `answer` cite. c counts the answers up to this one.
use Rattle.std.specs.Prelude.{◌≡◌, ℕ, ◌+◌, ◌-◌, cond, List, [], ◌∷◌, length, ◌==◌, nat_lt, Float, Ok, Err}
use Rattle.triple.specs.declared.Triple.{Triple}
use Rattle.triple.specs.declared.State.{State}
use Rattle.triple.specs.declared.Point.{Point}
use Rattle.triple.specs.declared.Sample.{Sample}
use Rattle.triple.specs.Arithmetic.{nought, zeros}
use Rattle.refusals.specs.declared.Refusal.{Refusal}
use Rattle.refusals.specs.declared.Refusal.TheVariants.{MaxStepsExceeded, SampleRoom, NoQuestion, NotThatQuestion}
use Rattle.sums.specs.Sums.{corrected_state}
use Rattle.startup.specs.Passes.{is_settled}
use Rattle.plan.specs.declared.Settings.{Settings}
use Rattle.plan.specs.declared.Plan.{Plan}
use Rattle.plan.specs.Limits.{wants_samples}
use Rattle.plan.specs.Plan.{plan_of}
use Rattle.plan.specs.Verdict.{Verdict, verdict_on}
use Rattle.run.specs.declared.Count.{Count}
use Rattle.run.specs.declared.Body.{Body}
use Rattle.run.specs.declared.Run.{Run}
use Rattle.gauss_jackson.specs.declared.Question.{Question}
use Rattle.gauss_jackson.specs.declared.Answered.{Answered}
use Rattle.gauss_jackson.specs.declared.Outcome.{Outcome}
use Rattle.gauss_jackson.specs.declared.Outcome.TheVariants.{Ask, Done, Refused}
use Rattle.run.specs.declared.waiting.Stage.{Stage}
use Rattle.run.specs.declared.waiting.Stage.TheVariants.{First}
use Rattle.run.specs.declared.waiting.Waiting.{Waiting}
use Rattle.run.specs.declared.waiting.Waiting.TheVariants.{Epoch, Forward, Backward, Survey, Pass, Step, Tail, TailSample, Ended, Unknown}
use Rattle.conditions.specs.Conditions.{is_due, is_tail, is_at_rest}
unfoldable pub use Rattle.run.specs.Waiting.{next_count}
use Rattle.run.specs.Waiting.{is_last, stage_after, mark_at, waits_at, next_point}
use Rattle.run.specs.Questions.{question_at}
use Rattle.run.specs.Moves.{fresh_body, surveyed, kept, moved_on, moved_back, pass_begun, renewed, pass_made, launched, predicted, tried, committed, end_of_tail}
use Rattle.run.specs.Samples.{Room, has_room, put_all, start_samples, step_sample, last_sample}
use Rattle.run.specs.Rooms.{Leaves}
use Rattle.run.specs.declared.samples.Room.{Room as Lent}
use Rattle.run.specs.Sound.{is_sound}

-- ---- the run is ended: every ended run is the same, and holds nothing
unfoldable pub no_plan : Plan
no_plan =
    record {
      settings =
          record {
            h = nought;
            corrector_tol = nought;
            startup_tol = nought;
            max_corrector_iters = 0;
            max_startup_iters = 0;
            max_steps = 0;
            samples = 0;
          };
      t0 = nought;
      tf = nought;
      h = nought;
    }

unfoldable pub ended_run : Run
ended_run = record { mark = mark_at Ended (record { number = 0; evals = 0 }); body = fresh_body no_plan zeros zeros }

unfoldable pub ending : Outcome → Answered
ending o = record { run = ended_run; outcome = o; stored = 0 }

-- ---- a question is open
abbrev pub question_under : ℕ → Point → Question
question_under n p = record { number = n; t = p.t; r = p.r; v = p.v }

unfoldable pub question_of : Waiting → Count → Body → Outcome
question_of w c b = Ask (question_under c.number (question_at w b))

unfoldable pub asking : Waiting → Count → Body → Answered
asking w c b = record { run = record { mark = mark_at w c; body = b }; outcome = question_of w c b; stored = 0 }

-- ---- the finished state
unfoldable pub solution_of : Float → State → Count → ℕ → Body → Outcome
solution_of t x c n b = Done (record { t = t; r = x.r; v = x.v; evals = c.evals; steps = n; startup_iters = b.startup_iters })

-- the head of the loop: "While (tf - t)·dir > 0: test max_steps; [..] If abs(rem) - abs(h) < -1e-12·abs(h): RK4 over rem [..] Else: predict"
unfoldable pub onward : Count → Body → Answered
onward c b =
    cond (is_due b.plan b.track.t)
    (cond (nat_lt b.track.steps b.plan.settings.max_steps)
    (cond (is_tail b.plan b.track.t) (asking (Tail First) c b) (asking (Step 0) c (predicted b)))
    (ending (Refused MaxStepsExceeded)))
    (ending (solution_of b.track.t b.track.state c b.track.steps b))

-- ---- what a call gives: the answer, and the room at exit
pub record Given : Type 0 where
  pub got : Answered
  pub out : Room

abbrev pub quiet : Answered → Room → Given
quiet x out = record { got = x; out = out }

-- a call that was lent a room gives the answer x, and leaves the room so
abbrev pub Gives : Given → Answered → (l m : Lent) → Type 0
Gives g x l m = (x ≡ g.got) × Leaves l m g.out

-- W-207: beside the outcome a call tells how many samples it stored
unfoldable pub with_stored : ℕ → Answered → Answered
with_stored m x = record { run = x.run; outcome = x.outcome; stored = m }

-- samples from number n on are due, if wanted, and then x follows: all or none, refusal 6 before all else
unfoldable pub sampling : ℕ → List Sample → Body → Room → Answered → Given
sampling n ss b out x =
    cond (wants_samples b.plan.settings)
    (cond (has_room n (length ss) out) (record { got = with_stored (length ss) x; out = put_all n ss out }) (quiet (ending (Refused SampleRoom)) out))
    (quiet x out)

-- the startup is done
unfoldable pub startup_ended : Count → Body → Room → Given
startup_ended c b out = sampling 0 (start_samples b.plan b.places b.a) b out (onward c (launched b))

-- a step is made
unfoldable pub step_ended : Count → Body → Room → Given
step_ended c b out = sampling b.track.steps (step_sample b.track b.a ∷ []) b out (onward c b)

-- the head of the startup passes, and the end of one
unfoldable pub passes_on : Count → Body → Room → Given
passes_on c b out =
    cond (nat_lt b.startup_iters b.plan.settings.max_startup_iters)
    (quiet (asking (Pass 0) c (pass_begun b)) out)
    (startup_ended c b out)

unfoldable pub pass_ended : Count → Body → Room → Given
pass_ended c b out =
    cond (is_settled b.plan.settings.startup_tol b.widest)
    (startup_ended c (pass_made b) out)
    (passes_on c (pass_made b) out)

-- ---- an answer at each waiting point, with the acceleration a
-- an RK4 step whose waiting points are w: the first three accelerations are kept, and the next question follows; the fourth leads to x
unfoldable pub rk4_taken : (w : Stage → Waiting) → Stage → Count → Body → Triple → Answered → Answered
rk4_taken w s c b a x = cond (is_last s) x (asking (w (stage_after s)) c (kept s b a))

unfoldable pub forward_ended : ℕ → Count → Body → Triple → Answered
forward_ended i c b a = cond (nat_lt i 7) (asking (Forward (i + 1) First) c (moved_on i b a)) (asking (Backward 4 First) c (moved_on i b a))

unfoldable pub backward_ended : ℕ → Count → Body → Triple → Answered
backward_ended i c b a = cond (nat_lt 1 i) (asking (Backward (i - 1) First) c (moved_back i b a)) (asking (Survey 0) c (moved_back i b a))

-- "with samples one more question at tf, end at tf with one more step"
unfoldable pub tail_ended : Count → Body → Triple → Answered
tail_ended c b a =
    cond (wants_samples b.plan.settings)
    (asking TailSample c (tried b (end_of_tail b a)))
    (ending (solution_of b.plan.tf (end_of_tail b a) c (b.track.steps + 1) b))

unfoldable pub survey_taken : ℕ → Count → Body → Triple → Room → Given
survey_taken i c b a out =
    cond (nat_lt i 8) (quiet (asking (Survey (next_point i)) c (surveyed i b a)) out) (passes_on c (surveyed i b a) out)

unfoldable pub pass_taken : ℕ → Count → Body → Triple → Room → Given
pass_taken i c b a out = cond (nat_lt i 8) (quiet (asking (Pass (next_point i)) c (renewed i b a)) out) (pass_ended c (renewed i b a) out)

-- after n corrector passes. "A stop keeps the acceleration from before the last correction. No passes keep the prediction."
unfoldable pub step_taken : ℕ → Count → Body → Triple → Room → Given
step_taken n c b a out =
    let y = corrected_state b.plan.h b.track.sums b.trial.fixed a in
    cond (nat_lt n b.plan.settings.max_corrector_iters)
    (cond (is_at_rest b.plan.settings.corrector_tol b.trial.state y)
    (step_ended c (committed b y a) out)
    (quiet (asking (Step (n + 1)) c (tried b y)) out))
    (step_ended c (committed b b.trial.state a) out)

unfoldable pub last_taken : Count → Body → Triple → Room → Given
last_taken c b a out =
    sampling (b.track.steps + 1) (last_sample b.plan b.trial.state a ∷ []) b out
    (ending (solution_of b.plan.tf b.trial.state c (b.track.steps + 1) b))

unfoldable pub answered_at : Waiting → Count → Body → Triple → Room → Given
answered_at Epoch c b a out = quiet (asking (Forward 4 First) c (surveyed 4 b a)) out
answered_at (Forward i s) c b a out = quiet (rk4_taken (λ (t : Stage). Forward i t) s c b a (forward_ended i c b a)) out
answered_at (Backward i s) c b a out = quiet (rk4_taken (λ (t : Stage). Backward i t) s c b a (backward_ended i c b a)) out
answered_at (Survey i) c b a out = survey_taken i c b a out
answered_at (Pass i) c b a out = pass_taken i c b a out
answered_at (Step n) c b a out = step_taken n c b a out
answered_at (Tail s) c b a out = quiet (rk4_taken (λ (t : Stage). Tail t) s c b a (tail_ended c b a)) out
answered_at TailSample c b a out = last_taken c b a out
answered_at Ended c b a out = quiet (ending (Refused NoQuestion)) out
answered_at Unknown c b a out = quiet (ending (Refused NoQuestion)) out

-- after 7 and 8 all is unchanged
unfoldable pub refusing : Run → Refusal → Answered
refusing run e = record { run = run; outcome = Refused e; stored = 0 }

-- "At an answer 7, 8, then 6 wherever samples are due (end of startup, commit, tail), before 2."
unfoldable pub answered : Run → ℕ → Triple → Room → Given
answered run n a out =
    cond (is_sound run)
    (cond (run.mark.count.number == n)
    (answered_at (waits_at run.mark) (next_count run.mark.count) run.body a out)
    (quiet (refusing run NotThatQuestion) out))
    (quiet (refusing run NoQuestion) out)

-- ---- a start
unfoldable pub started_by : Verdict → Plan → Triple → Triple → Answered
started_by (Ok u) p r0 v0 = asking Epoch (record { number = 0; evals = 0 }) (fresh_body p r0 v0)
started_by (Err e) p r0 v0 = ending (Refused e)

unfoldable pub started : Settings → Float → Float → Triple → Triple → Answered
started s t0 tf r0 v0 = started_by (verdict_on (plan_of s t0 tf)) (plan_of s t0 tf) r0 v0

-- the open question, told again
unfoldable pub open_question : Run → Outcome
open_question run = cond (is_sound run) (question_of (waits_at run.mark) run.mark.count run.body) (Refused NoQuestion)
