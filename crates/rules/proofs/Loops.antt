-- The heads of the loops of the rules: what is left is the limit less the count, so each loop goes by one test of the count.
use mathlib.Core.Path.{◌≡◌, refl, sym, ap, ◌∙◌}
use mathlib.Core.Logic.{◌≢◌}
use Prim.Native.Nat.{ℕ, zero, suc, ◌+◌, ◌-◌, ◌≤◌, ◌<◌}
use native.Mathlib.Nat.{sub-zero}
use native.Mathlib.Omega.{arith}
use mathlib.Core.Bool.{Bool, true, false, cond}
use mathlib.Core.List.{List, [], ◌∷◌}
use lib.Dec.{ltb}
use lib.Ieee.{neg}
use borrow.Author.Tests.{ltb-true, ltb-false}
use Rattle.triple.specs.declared.Triple.{Triple}
use Rattle.triple.specs.declared.State.{State}
use Rattle.triple.specs.Nine.{slid}
use Rattle.sums.specs.declared.Fixed.{Fixed}
use Rattle.sums.specs.Sums.{predicted_state, fixed_of, corrected_state}
use Rattle.startup.specs.declared.Places.{Places}
use Rattle.startup.specs.declared.Widest.{Widest}
use Rattle.startup.specs.Points.{point_at, placed}
use Rattle.startup.specs.Passes.{pass_places, calm_at, is_settled}
use Rattle.plan.specs.declared.Plan.{Plan}
use Rattle.run.specs.declared.Track.{Track}
use Rattle.run.specs.declared.Body.{Body}
use Rattle.run.specs.declared.waiting.Stage.TheVariants.{First}
use Rattle.run.specs.declared.waiting.Waiting.TheVariants.{Forward, Backward, Survey, Pass, Step, Tail}
use Rattle.conditions.specs.Conditions.{is_due, is_tail, is_at_rest}
use Rattle.run.specs.Tracks.{track_on, step_point}
use Rattle.run.specs.Waiting.{next_point}
use Rattle.run.specs.Questions.{stage_question, grid_point, end_point, question_at}
use Rattle.run.specs.Moves.{with_slope, kept, end_of, moved_on, moved_back, predicted, committed, end_of_tail, renewed, surveyed}
use Rattle.run.specs.Samples.{step_sample}
use Rattle.rules.specs.Rules.{Course, asks, ends, exceeds, rk4, forward, backward, others, renew, passes, sampled, tail, correct, step, march, survey}
use Rattle.rules.proofs.Rest.{looking, turning, ahead, behind, seeing, renewing, due, landing, last, tailed, later, after3, after2, after1, stage, next, rest_at}

-- ---- the RK4 steps of the startup
pub forward_next : (i : ℕ) (p : Plan) (x : Places) (k : Places → Course) → i < 8
    → forward (8 - i) i p x k ≡ rk4 (point_at p.t0 p.h x i) p.h (λ (e : State). forward (8 - (i + 1)) (i + 1) p (placed (i + 1) e x) k)
unfolding forward
forward_next i p x k h = let f : 8 - i ≡ suc (8 - (i + 1)) = omega arith in ap (λ (m : ℕ). forward m i p x k) f

pub forward_done : (i : ℕ) (p : Plan) (x : Places) (k : Places → Course) → 8 ≤ i → forward (8 - i) i p x k ≡ k x
unfolding forward
forward_done i p x k h = let f : 8 - i ≡ zero = omega arith in ap (λ (m : ℕ). forward m i p x k) f

pub backward_next : (i : ℕ) (p : Plan) (x : Places) (k : Places → Course) → 1 ≤ i
    → backward i p x k ≡ rk4 (point_at p.t0 p.h x i) (neg p.h) (λ (e : State). backward (i - 1) p (placed (i - 1) e x) k)
unfolding backward
backward_next zero p x k h = absurd (omega arith)
backward_next (suc i) p x k h =
    let f : i ≡ suc i - 1 = omega arith in
    ap (λ (m : ℕ). rk4 (point_at p.t0 p.h x (suc i)) (neg p.h) (λ (e : State). backward m p (placed m e x) k)) f

-- ---- the points in order
pub later_next : (i : ℕ) → i < 8 → i ≢ 4 → later i ≡ next_point i ∷ later (next_point i)
unfolding later next_point
later_next zero h o = refl
later_next (suc zero) h o = refl
later_next (suc (suc zero)) h o = refl
later_next (suc (suc (suc zero))) h o = refl
later_next (suc (suc (suc (suc zero)))) h o = absurd (o refl)
later_next (suc (suc (suc (suc (suc zero))))) h o = refl
later_next (suc (suc (suc (suc (suc (suc zero)))))) h o = refl
later_next (suc (suc (suc (suc (suc (suc (suc zero))))))) h o = refl
later_next (suc (suc (suc (suc (suc (suc (suc (suc n)))))))) h o = absurd (omega arith)

pub later_none : (i : ℕ) → 8 ≤ i → later i ≡ []
unfolding later
later_none zero h = absurd (omega arith)
later_none (suc zero) h = absurd (omega arith)
later_none (suc (suc zero)) h = absurd (omega arith)
later_none (suc (suc (suc zero))) h = absurd (omega arith)
later_none (suc (suc (suc (suc zero)))) h = absurd (omega arith)
later_none (suc (suc (suc (suc (suc zero))))) h = absurd (omega arith)
later_none (suc (suc (suc (suc (suc (suc zero)))))) h = absurd (omega arith)
later_none (suc (suc (suc (suc (suc (suc (suc zero))))))) h = absurd (omega arith)
later_none (suc (suc (suc (suc (suc (suc (suc (suc n)))))))) h = refl

-- ---- what is left of a limit, by one test of the count
module _ {A : Type 0} (f : ℕ → A) (limit n : ℕ) where
  pub counted_down : (more : A) → (n < limit → f (suc (limit - (n + 1))) ≡ more) → (none : A) → f zero ≡ none → f (limit - n) ≡ cond (ltb n limit) more none
  counted_down more g none e = go (ltb n limit) refl
    where
      go : (d : Bool) → ltb n limit ≡ d → f (limit - n) ≡ cond d more none
      go true q = let h : n < limit = ltb-true _ _ q in let z : limit - n ≡ suc (limit - (n + 1)) = omega arith in ap f z ∙ g h
      go false q = let h : limit ≤ n = ltb-false _ _ q in let z : limit - n ≡ zero = omega arith in ap f z ∙ e

pub passes_on_lem : (p : Plan) (n : ℕ) (x : Places) (a : List Triple) (k : ℕ → Places → List Triple → Course)
    → passes (p.settings.max_startup_iters - n) n p x a k
    ≡ cond (ltb n p.settings.max_startup_iters)
    (renew others p (pass_places p.h x a) a (calm_at a) (λ (a' : List Triple) (w : Widest).
    cond (is_settled p.settings.startup_tol w)
    (k (n + 1) (pass_places p.h x a) a')
    (passes (p.settings.max_startup_iters - (n + 1)) (n + 1) p (pass_places p.h x a) a' k)))
    (k n x a)
unfolding passes
passes_on_lem p n x a k = counted_down (λ (m : ℕ). passes m n p x a k) p.settings.max_startup_iters n _ (λ h. refl) _ refl

pub correct_on : (p : Plan) (n : ℕ) (k : Track) (f : Fixed) (y : State) (b : Triple) (commit : State → Triple → Course)
    → correct (p.settings.max_corrector_iters - n) p k f y b commit
    ≡ cond (ltb n p.settings.max_corrector_iters)
    (cond (is_at_rest p.settings.corrector_tol y (corrected_state p.h k.sums f b))
    (commit (corrected_state p.h k.sums f b) b)
    (asks (step_point p k (corrected_state p.h k.sums f b)) (λ (c : Triple).
    correct (p.settings.max_corrector_iters - (n + 1)) p k f (corrected_state p.h k.sums f b) c commit)))
    (commit y b)
unfolding correct
correct_on p n k f y b commit = counted_down (λ (m : ℕ). correct m p k f y b commit) p.settings.max_corrector_iters n _ (λ h. refl) _ refl

-- the test of max_steps stands behind the test of the time in both
behind_test : (d e : Bool) (more none done : Course) → cond e (cond d more done) (cond d none done) ≡ cond d (cond e more none) done
behind_test true e more none done = refl
behind_test false true more none done = refl
behind_test false false more none done = refl

pub march_on : (p : Plan) (startups : ℕ) (k : Track) (a : List Triple)
    → march (p.settings.max_steps - k.steps) p startups k a
    ≡ cond (is_due p k.t)
    (cond (ltb k.steps p.settings.max_steps)
    (cond (is_tail p k.t)
    (tail p startups k)
    (step p k a (λ (y : State) (b : Triple).
    sampled p (k.steps + 1) (step_sample (track_on p k y b) (slid a b) ∷ []) (march (p.settings.max_steps - (k.steps + 1)) p startups (track_on p k y b) (slid a b)))))
    exceeds)
    (ends k.t k.state k.steps startups)
unfolding march
march_on p startups k a =
    counted_down (λ (m : ℕ). march m p startups k a) p.settings.max_steps k.steps _ (λ h. refl) _ refl
    ∙ behind_test (is_due p k.t) (ltb k.steps p.settings.max_steps) _ _ _

-- ---- the heads of the loops, at a body: the first question, and what follows
pub ahead_is : (i : ℕ) (b : Body) → i < 8 → ahead i b ≡ rest_at (Forward i First) b
unfolding rk4 rest_at question_at next stage after1 after2 after3 stage_question grid_point kept with_slope moved_on end_of
ahead_is i b h = forward_next i b.plan b.places (turning b) h

pub behind_is : (i : ℕ) (b : Body) → 1 ≤ i → behind i b ≡ rest_at (Backward i First) b
unfolding rk4 rest_at question_at next stage after1 after2 after3 stage_question grid_point kept with_slope moved_back end_of
behind_is i b h = backward_next i b.plan b.places (looking b) h

pub tail_is : (b : Body) → tail b.plan b.startup_iters b.track ≡ rest_at (Tail First) b
unfolding tail rk4 rest_at question_at next stage after1 after2 after3 stage_question kept with_slope tailed last end_of_tail end_of
tail_is b = refl

pub step_is : (b : Body)
    → step b.plan b.track b.a (λ (y : State) (c : Triple).
    sampled b.plan (b.track.steps + 1) (step_sample (track_on b.plan b.track y c) (slid b.a c) ∷ [])
    (march (b.plan.settings.max_steps - (b.track.steps + 1)) b.plan b.startup_iters (track_on b.plan b.track y c) (slid b.a c)))
    ≡ rest_at (Step 0) (predicted b)
unfolding step rest_at question_at next end_point due committed predicted track_on
step_is b =
    ap (λ (m : ℕ). asks (step_point b.plan b.track (predicted_state b.plan.h b.track.sums b.a)) (λ (c : Triple).
    correct m b.plan b.track (fixed_of b.a) (predicted_state b.plan.h b.track.sums b.a) c (landing (predicted b))))
    (sym (sub-zero b.plan.settings.max_corrector_iters))

pub seeing_is : (i : ℕ) (b : Body) → seeing (i ∷ later i) b ≡ rest_at (Survey i) b
unfolding survey rest_at question_at next grid_point surveyed
seeing_is i b = refl

pub renewing_is : (i : ℕ) (b : Body) → renewing (i ∷ later i) b ≡ rest_at (Pass i) b
unfolding renew rest_at question_at next grid_point renewed
renewing_is i b = refl
