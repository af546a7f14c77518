-- What of the tree is still to come for a run: over the mathematics alone, from the questions and moves of the calls. The rules come in
-- at the heads of their loops only.
use Prim.Native.Nat.{ℕ, zero, suc, ◌+◌, ◌-◌}
use mathlib.Core.Bool.{cond}
use mathlib.Core.List.{List, [], ◌∷◌}
use Rattle.triple.specs.declared.Triple.{Triple}
use Rattle.triple.specs.declared.State.{State}
use Rattle.startup.specs.declared.Places.{Places}
use Rattle.startup.specs.declared.Widest.{Widest}
use Rattle.startup.specs.Passes.{is_settled}
use Rattle.plan.specs.Limits.{wants_samples}
use Rattle.run.specs.declared.Body.{Body}
use Rattle.run.specs.declared.Run.{Run}
use Rattle.run.specs.declared.waiting.Stage.{Stage}
use Rattle.run.specs.declared.waiting.Stage.TheVariants.{First, Second, Third, Fourth}
use Rattle.run.specs.declared.waiting.Waiting.{Waiting}
use Rattle.run.specs.declared.waiting.Waiting.TheVariants.{Epoch, Forward, Backward, Survey, Pass, Step, Tail, TailSample, Ended, Unknown}
use Rattle.run.specs.Tracks.{final_point}
use Rattle.run.specs.Waiting.{waits_at}
use Rattle.run.specs.Questions.{question_at}
use Rattle.run.specs.Moves.{surveyed, kept, moved_on, moved_back, renewed, committed, end_of_tail}
use Rattle.run.specs.Samples.{step_sample, last_sample}
use Rattle.run.specs.Sound.{is_sound}
use Rattle.gauss_jackson.specs.Answers.{Given}
use Rattle.rules.specs.Rules.{Course, asks, stores, ends, exceeds, forward, backward, others, survey, renew, passes, sampled, correct, march, fly}
use Rattle.rules.specs.Walk.{told, Line, open_at, over, Stop}

-- ---- the heads of the loops, at a body
-- after the startup passes
abbrev pub sweeping : Body → Places → List Triple → Course
sweeping b x a = passes (b.plan.settings.max_startup_iters - b.startup_iters) b.startup_iters b.plan x a (fly b.plan)

-- after the RK4 steps
abbrev pub looking : Body → Places → Course
looking b x = survey others b.plan x b.a (sweeping b x)

abbrev pub turning : Body → Places → Course
turning b x = backward 4 b.plan x (looking b)

abbrev pub ahead : ℕ → Body → Course
ahead i b = forward (8 - i) i b.plan b.places (turning b)

abbrev pub behind : ℕ → Body → Course
behind i b = backward i b.plan b.places (looking b)

abbrev pub seeing : List ℕ → Body → Course
seeing is b = survey is b.plan b.places b.a (sweeping b b.places)

-- after a pass
abbrev pub passed : Body → List Triple → Widest → Course
passed b a w =
    cond (is_settled b.plan.settings.startup_tol w)
    (fly b.plan (b.startup_iters + 1) b.places a)
    (passes (b.plan.settings.max_startup_iters - (b.startup_iters + 1)) (b.startup_iters + 1) b.plan b.places a (fly b.plan))

abbrev pub renewing : List ℕ → Body → Course
renewing is b = renew is b.plan b.places b.a b.widest (passed b)

-- the steps
abbrev pub loop : Body → Course
loop b = march (b.plan.settings.max_steps - b.track.steps) b.plan b.startup_iters b.track b.a

-- a step has just been made
unfoldable pub due : Body → Course
due b = sampled b.plan b.track.steps (step_sample b.track b.a ∷ []) (loop b)

abbrev pub landing : Body → State → Triple → Course
landing b y x = due (committed b y x)

-- the tail has just been made
unfoldable pub last : Body → State → Triple → Course
last b e x = stores (b.track.steps + 1) (last_sample b.plan e x ∷ []) (ends b.plan.tf e (b.track.steps + 1) b.startup_iters)

unfoldable pub tailed : Body → State → Course
tailed b e =
    cond (wants_samples b.plan.settings)
    (asks (final_point b.plan e) (last b e))
    (ends b.plan.tf e (b.track.steps + 1) b.startup_iters)

-- the points that are asked after point i
unfoldable pub later : ℕ → List ℕ
later zero = 1 ∷ 2 ∷ 3 ∷ 5 ∷ 6 ∷ 7 ∷ 8 ∷ []
later (suc zero) = 2 ∷ 3 ∷ 5 ∷ 6 ∷ 7 ∷ 8 ∷ []
later (suc (suc zero)) = 3 ∷ 5 ∷ 6 ∷ 7 ∷ 8 ∷ []
later (suc (suc (suc zero))) = 5 ∷ 6 ∷ 7 ∷ 8 ∷ []
later (suc (suc (suc (suc zero)))) = []
later (suc (suc (suc (suc (suc zero))))) = 6 ∷ 7 ∷ 8 ∷ []
later (suc (suc (suc (suc (suc (suc zero)))))) = 7 ∷ 8 ∷ []
later (suc (suc (suc (suc (suc (suc (suc zero))))))) = 8 ∷ []
later (suc (suc (suc (suc (suc (suc (suc (suc n)))))))) = []

-- ---- an RK4 step, whose waiting points are w: after the answer to each stage; it ends in k
module _ (w : Stage → Waiting) (k : Body → Triple → Course) where
  unfoldable pub after3 : Body → Triple → Course
  after3 b x = asks (question_at (w Fourth) (kept Third b x)) (k (kept Third b x))

  unfoldable pub after2 : Body → Triple → Course
  after2 b x = asks (question_at (w Third) (kept Second b x)) (after3 (kept Second b x))

  unfoldable pub after1 : Body → Triple → Course
  after1 b x = asks (question_at (w Second) (kept First b x)) (after2 (kept First b x))

  unfoldable pub stage : Stage → Body → Triple → Course
  stage First b x = after1 b x
  stage Second b x = after2 b x
  stage Third b x = after3 b x
  stage Fourth b x = k b x

-- ---- what follows the answer at a waiting point
unfoldable pub next : Waiting → Body → Triple → Course
next Epoch b x = ahead 4 (surveyed 4 b x)
next (Forward i s) b x = stage (λ (s : Stage). Forward i s) (λ (b : Body) (x : Triple). ahead (i + 1) (moved_on i b x)) s b x
next (Backward i s) b x = stage (λ (s : Stage). Backward i s) (λ (b : Body) (x : Triple). behind (i - 1) (moved_back i b x)) s b x
next (Survey i) b x = seeing (later i) (surveyed i b x)
next (Pass i) b x = renewing (later i) (renewed i b x)
next (Step n) b x = correct (b.plan.settings.max_corrector_iters - n) b.plan b.track b.trial.fixed b.trial.state x (landing b)
next (Tail s) b x = stage (λ (s : Stage). Tail s) (λ (b : Body) (x : Triple). tailed b (end_of_tail b x)) s b x
next TailSample b x = last b b.trial.state x
next Ended b x = exceeds
next Unknown b x = exceeds

unfoldable pub rest_at : Waiting → Body → Course
rest_at w b = asks (question_at w b) (next w b)

unfoldable pub rest : Run → Course
rest run = rest_at (waits_at run.mark) run.body

-- where a tree stands after e answers
unfoldable pub opened : ℕ → ℕ → Course → Line
opened n e (asks q k) = open_at n e q k
opened n e (stores i ss c) = over
opened n e (ends t y steps startups) = over
opened n e exceeds = over

-- where the line of a run stands: where answer 7 is due, no question is open
unfoldable pub line_of : Run → Line
line_of run = cond (is_sound run) (opened run.mark.count.number run.mark.count.evals (rest run)) over

-- what is seen of a call
unfoldable pub seen : Given → Stop
seen t = record { said = told t.got.outcome; stored = t.got.stored; out = t.out; line = line_of t.got.run }
