-- Document 01's "Startup" and "Steps and tail" in direct style: the whole integration as one tree of questions. Nothing here knows how a run is
-- kept between two questions. It takes the plan and the newest point (records of `plan` and `run`), and formulas that 01 gives in a line each: the loop's
-- tests (`conditions`), where a step or the tail is asked, and what a sample holds (`run`).
use Rattle.std.specs.Prelude.{ℕ, zero, suc, ◌+◌, ◌-◌, cond, List, [], ◌∷◌, set, Float}
use Rattle.std.specs.Float.Ieee.{neg}
use Rattle.triple.specs.declared.Triple.{Triple}
use Rattle.triple.specs.declared.State.{State}
use Rattle.triple.specs.declared.Point.{Point}
use Rattle.triple.specs.declared.Sample.{Sample}
use Rattle.triple.specs.Nine.{at, nine_zeros, slid}
use Rattle.rk4.specs.Rk4.{second_question, third_question, fourth_question, end_of_step}
use Rattle.sums.specs.declared.Fixed.{Fixed}
use Rattle.sums.specs.Sums.{predicted_state, fixed_of, corrected_state}
use Rattle.startup.specs.declared.Places.{Places}
use Rattle.startup.specs.declared.Widest.{Widest}
use Rattle.startup.specs.Points.{point_at, first_places, placed}
use Rattle.startup.specs.Passes.{pass_places, widened, calm_at, is_settled}
use Rattle.plan.specs.declared.Plan.{Plan}
use Rattle.plan.specs.Limits.{wants_samples}
use Rattle.run.specs.declared.Track.{Track}
use Rattle.conditions.specs.Conditions.{left_at, is_due, is_tail, is_at_rest}
use Rattle.run.specs.Tracks.{start_track, track_on, step_point, tail_from, final_point}
use Rattle.run.specs.Samples.{start_samples, step_sample, last_sample}

pub data Course : Type 0 where
  asks : Point → (Triple → Course) → Course  -- a question at a time, a position and a velocity; then by the acceleration got
  stores : ℕ → List Sample → Course → Course  -- samples are due, the first of them with this number
  ends : Float → State → ℕ → ℕ → Course  -- the finished state: its time, position and velocity, the steps, the startup passes
  exceeds : Course  -- a further step is due and steps >= max_steps

-- ---- one RK4 step from p over h: four questions, then on with its end
unfoldable pub rk4 : Point → Float → (State → Course) → Course
rk4 p h k =
    asks p (λ (l1 : Triple).
    asks (second_question p h l1) (λ (l2 : Triple).
    asks (third_question p h l1 l2) (λ (l3 : Triple).
    asks (fourth_question p h l2 l3) (λ (l4 : Triple).
    k (end_of_step p h l1 l2 l3 l4)))))

-- ---- "1. a[4] at t0. RK4 forward to points 5, 6, 7, 8, then backward with -h to 3, 2, 1, 0. Then a[i] for i = 0, 1, 2, 3, 5, 6, 7, 8."
-- forward from point i, so many steps
unfoldable pub forward : (left : ℕ) → ℕ → Plan → Places → (Places → Course) → Course
forward zero i p x k = k x
forward (suc left) i p x k =
    rk4 (point_at p.t0 p.h x i) p.h (λ (e : State). forward left (i + 1) p (placed (i + 1) e x) k)

-- backward from point i to point 0
unfoldable pub backward : (i : ℕ) → Plan → Places → (Places → Course) → Course
backward zero p x k = k x
backward (suc i) p x k = rk4 (point_at p.t0 p.h x (suc i)) (neg p.h) (λ (e : State). backward i p (placed i e x) k)

abbrev pub others : List ℕ
others = 0 ∷ 1 ∷ 2 ∷ 3 ∷ 5 ∷ 6 ∷ 7 ∷ 8 ∷ []

-- the accelerations at these points, in order, each put into the window of nine
unfoldable pub survey : List ℕ → Plan → Places → List Triple → (List Triple → Course) → Course
survey [] p x window k = k window
survey (i ∷ is) p x window k = asks (point_at p.t0 p.h x i) (λ (a : Triple). survey is p x (set window i a) k)

-- ---- "Then the eight accelerations afresh, in order", with the largest change and the largest acceleration met
unfoldable pub renew : List ℕ → Plan → Places → List Triple → Widest → (List Triple → Widest → Course) → Course
renew [] p x window w k = k window w
renew (i ∷ is) p x window w k =
    asks (point_at p.t0 p.h x i) (λ (a : Triple). renew is p x (set window i a) (widened w (at window i) a) k)

-- ---- "Each pass: .. For i not 4, all from the same a: .. Stop if their quotient is below startup_tol." n passes are made, `left` may still be
unfoldable pub passes : (left : ℕ) → ℕ → Plan → Places → List Triple → (ℕ → Places → List Triple → Course) → Course
passes zero n p x window k = k n x window
passes (suc left) n p x window k =
    let y = pass_places p.h x window in
    renew others p y window (calm_at window) (λ (fresh : List Triple) (w : Widest).
    cond (is_settled p.settings.startup_tol w) (k (n + 1) y fresh) (passes left (n + 1) p y fresh k))

-- ---- samples are due, if wanted
unfoldable pub sampled : Plan → ℕ → List Sample → Course → Course
sampled p n ss c = cond (wants_samples p.settings) (stores n ss c) c

-- ---- "RK4 over rem, with samples one more question at tf, end at tf with one more step"
unfoldable pub tail : Plan → ℕ → Track → Course
tail p startups k =
    rk4 (tail_from k) (left_at p k.t) (λ (y : State).
    cond (wants_samples p.settings)
    (asks (final_point p y) (λ (a : Triple). stores (k.steps + 1) (last_sample p y a ∷ []) (ends p.tf y (k.steps + 1) startups)))
    (ends p.tf y (k.steps + 1) startups))

-- ---- "each pass: r = .., v = .. Stop if [..]; else ask again". y is the state so far, a the acceleration there; `left` passes may still be made.
-- "A stop keeps the acceleration from before the last correction. No passes keep the prediction."
unfoldable pub correct : (left : ℕ) → Plan → Track → Fixed → State → Triple → (State → Triple → Course) → Course
correct zero p k f y a commit = commit y a
correct (suc left) p k f y a commit =
    let z = corrected_state p.h k.sums f a in
    cond (is_at_rest p.settings.corrector_tol y z)
    (commit z a)
    (asks (step_point p k z) (λ (next : Triple). correct left p k f z next commit))

-- one step: "predict with row 9: ..; ask at t + h", then the passes
unfoldable pub step : Plan → Track → List Triple → (State → Triple → Course) → Course
step p k window commit =
    let y = predicted_state p.h k.sums window in
    asks (step_point p k y) (λ (a : Triple). correct p.settings.max_corrector_iters p k (fixed_of window) y a commit)

-- ---- "While (tf - t)·dir > 0: test max_steps; [..] If abs(rem) - abs(h) < -1e-12·abs(h): [tail] Else: [step]; commit: slide, .., one step"
-- k is the newest point; `left` steps may still be made
unfoldable pub march : (left : ℕ) → Plan → ℕ → Track → List Triple → Course
march zero p startups k window = cond (is_due p k.t) exceeds (ends k.t k.state k.steps startups)
march (suc left) p startups k window =
    cond (is_due p k.t)
    (cond (is_tail p k.t)
    (tail p startups k)
    (step p k window (λ (y : State) (a : Triple).
    sampled p (k.steps + 1) (step_sample (track_on p k y a) (slid window a) ∷ []) (march left p startups (track_on p k y a) (slid window a)))))
    (ends k.t k.state k.steps startups)

-- after the startup: "with samples, points 4 to 8 are stored", then the steps. Four steps are made by then, whatever max_steps is: where it is
-- below 4 the difference falls to 0, and no further step may be made, as "steps >= max_steps" has it
unfoldable pub fly : Plan → ℕ → Places → List Triple → Course
fly p startups x window = sampled p 0 (start_samples p x window) (march (p.settings.max_steps - 4) p startups (start_track p x window) window)

-- ---- the whole integration
unfoldable pub integrate : Plan → Triple → Triple → Course
integrate p r0 v0 =
    asks (record { t = p.t0; r = r0; v = v0 }) (λ (a : Triple).
    forward 4 4 p (first_places r0 v0) (λ (x : Places).
    backward 4 p x (λ (y : Places).
    survey others p y (set nine_zeros 4 a) (λ (window : List Triple).
    passes p.settings.max_startup_iters 0 p y window (fly p)))))
