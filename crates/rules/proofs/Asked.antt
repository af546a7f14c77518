-- The rules ask at the times of 01's list and at no other, and store at most five samples at once.
use mathlib.Core.Path.{◌≡◌, refl, ap}
use Prim.Native.Nat.{ℕ, zero, suc, ◌+◌, ◌-◌, ◌≤◌}
use native.Mathlib.Omega.{arith}
use mathlib.Core.Bool.{Bool, true, false, cond}
use mathlib.Core.List.{List, [], ◌∷◌}
use lib.ListN.{set, length}
use lib.Ieee.{Float, binary64, neg, add, sub}
use Rattle.triple.specs.declared.Triple.{Triple}
use Rattle.triple.specs.declared.State.{State}
use Rattle.triple.specs.declared.Point.{Point}
use Rattle.triple.specs.declared.Sample.{Sample}
use Rattle.triple.specs.Nine.{at, nine_zeros, slid}
use Rattle.rk4.specs.Rk4.{half, second_question, third_question, fourth_question, end_of_step}
use Rattle.sums.specs.declared.Fixed.{Fixed}
use Rattle.sums.specs.Sums.{predicted_state, fixed_of, corrected_state}
use Rattle.startup.specs.declared.Places.{Places}
use Rattle.startup.specs.declared.Widest.{Widest}
use Rattle.startup.specs.Points.{point_at, first_places, placed}
use Rattle.startup.specs.Passes.{pass_places, widened, calm_at, is_settled}
use Rattle.plan.specs.declared.Plan.{Plan}
use Rattle.plan.specs.Limits.{wants_samples}
use Rattle.run.specs.declared.Track.{Track}
use Rattle.conditions.specs.Conditions.{left_at, is_due, is_tail, is_at_rest}
use Rattle.run.specs.Tracks.{start_track, track_on, step_point, tail_from, final_point}
use Rattle.run.specs.Samples.{start_samples, step_sample, last_sample}
use Rattle.rules.specs.Rules.{Course, asks, stores, ends, exceeds, rk4, forward, backward, others, survey, renew, passes, sampled, tail, correct, step, march, fly, integrate}
use Rattle.rules.specs.Asked.{clock, Listed, at_start, at_point, half_ahead, ahead, half_back, back, on_step, on_tail, half_tail, past_tail, at_end, due, AsListed, AsksAsListed}

-- at most n samples now, and then as listed
pub record Fair (p : Plan) (n : ℕ) (c : Course) : Type 0 where
  pub few : due c ≤ n
  pub on : AsListed p c

module _ (p : Plan) where
  -- ---- the ways in which the rules put a tree together
  asks_fair : (n : ℕ) (q : Point) (k : Triple → Course) → Listed p q.t → ((l : Triple) → Fair p 5 (k l)) → Fair p n (asks q k)
  unfolding due AsListed
  asks_fair n q k h f = record { few = omega arith; on = (h, λ (l : Triple). ((f l).few, (f l).on)) }

  stores_fair : (n m i : ℕ) (ss : List Sample) (c : Course) → Fair p n c → length ss + n ≤ m → Fair p m (stores i ss c)
  unfolding due AsListed
  stores_fair n m i ss c f h = let g = f.few in record { few = omega arith; on = f.on }

  ends_fair : (n : ℕ) (t : Float) (y : State) (i j : ℕ) → Fair p n (ends t y i j)
  unfolding due AsListed
  ends_fair n t y i j = record { few = omega arith; on = tt }

  exceeds_fair : (n : ℕ) → Fair p n exceeds
  unfolding due AsListed
  exceeds_fair n = record { few = omega arith; on = tt }

  wider : (n m : ℕ) (c : Course) → n ≤ m → Fair p n c → Fair p m c
  wider n m c h f = let g = f.few in record { few = omega arith; on = f.on }

  cond_fair : (n : ℕ) (b : Bool) (x y : Course) → Fair p n x → Fair p n y → Fair p n (cond b x y)
  cond_fair n true x y f g = f
  cond_fair n false x y f g = g

  sampled_fair : (n m i : ℕ) (ss : List Sample) (c : Course) → Fair p n c → length ss + n ≤ m → Fair p m (sampled p i ss c)
  unfolding sampled
  sampled_fair n m i ss c f h = cond_fair m (wants_samples p.settings) (stores i ss c) c (stores_fair n m i ss c f h) (wider n m c (omega arith) f)

  rk4_fair : (n : ℕ) (q : Point) (h : Float) (k : State → Course) → Listed p q.t → Listed p (add binary64 q.t (half h)) → Listed p (add binary64 q.t h)
      → ((e : State) → Fair p 5 (k e)) → Fair p n (rk4 q h k)
  unfolding rk4 second_question third_question fourth_question
  rk4_fair n q h k a b c f =
      asks_fair n q _ a (λ (l1 : Triple).
      asks_fair 5 (second_question q h l1) _ b (λ (l2 : Triple).
      asks_fair 5 (third_question q h l1 l2) _ b (λ (l3 : Triple).
      asks_fair 5 (fourth_question q h l2 l3) _ c (λ (l4 : Triple).
      f (end_of_step q h l1 l2 l3 l4)))))

  -- ---- the startup
  forward_fair : (left i : ℕ) (x : Places) (k : Places → Course) → 4 ≤ i → i + left ≤ 8 → ((x : Places) → Fair p 5 (k x)) → Fair p 5 (forward left i p x k)
  unfolding forward point_at
  forward_fair zero i x k a b f = f x
  forward_fair (suc left) i x k a b f =
      rk4_fair 5 (point_at p.t0 p.h x i) p.h _ (at_point i (omega arith) refl) (half_ahead i a (omega arith) refl) (ahead i a (omega arith) refl)
      (λ (e : State). forward_fair left (i + 1) (placed (i + 1) e x) k (omega arith) (omega arith) f)

  backward_fair : (i : ℕ) (x : Places) (k : Places → Course) → i ≤ 4 → ((x : Places) → Fair p 5 (k x)) → Fair p 5 (backward i p x k)
  unfolding backward point_at
  backward_fair zero x k a f = f x
  backward_fair (suc i) x k a f =
      rk4_fair 5 (point_at p.t0 p.h x (suc i)) (neg p.h) _ (at_point (suc i) (omega arith) refl) (half_back (suc i) (omega arith) a refl) (back (suc i) (omega arith) a refl)
      (λ (e : State). backward_fair i (placed i e x) k (omega arith) f)

  -- points of the nine
  abbrev Points : List ℕ → Type 0
  Points [] = Unit {0}
  Points (i ∷ is) = (i ≤ 8) × Points is

  others_points : Points others
  others_points = (omega arith, (omega arith, (omega arith, (omega arith, (omega arith, (omega arith, (omega arith, (omega arith, tt))))))))

  survey_fair : (is : List ℕ) (x : Places) (a : List Triple) (k : List Triple → Course) → Points is → ((a : List Triple) → Fair p 5 (k a)) → Fair p 5 (survey is p x a k)
  unfolding survey point_at
  survey_fair [] x a k h f = f a
  survey_fair (i ∷ is) x a k h f =
      asks_fair 5 (point_at p.t0 p.h x i) _ (at_point i h.0 refl) (λ (b : Triple). survey_fair is x (set a i b) k h.1 f)

  renew_fair : (is : List ℕ) (x : Places) (a : List Triple) (w : Widest) (k : List Triple → Widest → Course) → Points is
      → ((a : List Triple) (w : Widest) → Fair p 5 (k a w)) → Fair p 5 (renew is p x a w k)
  unfolding renew point_at
  renew_fair [] x a w k h f = f a w
  renew_fair (i ∷ is) x a w k h f =
      asks_fair 5 (point_at p.t0 p.h x i) _ (at_point i h.0 refl)
      (λ (b : Triple). renew_fair is x (set a i b) (widened w (at a i) b) k h.1 f)

  passes_fair : (left n : ℕ) (x : Places) (a : List Triple) (k : ℕ → Places → List Triple → Course)
      → ((n : ℕ) (x : Places) (a : List Triple) → Fair p 5 (k n x a)) → Fair p 5 (passes left n p x a k)
  unfolding passes
  passes_fair zero n x a k f = f n x a
  passes_fair (suc left) n x a k f =
      renew_fair others (pass_places p.h x a) a (calm_at a) _ others_points (λ (a' : List Triple) (w : Widest).
      cond_fair 5 (is_settled p.settings.startup_tol w) _ _ (f (n + 1) (pass_places p.h x a) a') (passes_fair left (n + 1) (pass_places p.h x a) a' k f))

  -- ---- the steps, with the clock at n
  tail_fair : (s n : ℕ) (k : Track) → k.t ≡ clock p n → Fair p 0 (tail p s k)
  unfolding tail tail_from left_at final_point
  tail_fair s n k e =
      rk4_fair 0 (tail_from k) (left_at p k.t) _ (on_tail n e)
      (half_tail n (ap (λ (t : Float). add binary64 t (half (sub binary64 p.tf t))) e))
      (past_tail n (ap (λ (t : Float). add binary64 t (sub binary64 p.tf t)) e))
      (λ (y : State). cond_fair 5 (wants_samples p.settings) _ _
      (asks_fair 5 (final_point p y) _ (at_end refl) (λ (b : Triple).
      stores_fair 0 5 (k.steps + 1) (last_sample p y b ∷ []) (ends p.tf y (k.steps + 1) s) (ends_fair 0 p.tf y (k.steps + 1) s) (omega arith)))
      (ends_fair 5 p.tf y (k.steps + 1) s))

  correct_fair : (left n : ℕ) (k : Track) (f : Fixed) (y : State) (b : Triple) (commit : State → Triple → Course) → k.t ≡ clock p n
      → ((y : State) (b : Triple) → Fair p 5 (commit y b)) → Fair p 5 (correct left p k f y b commit)
  unfolding correct step_point
  correct_fair zero n k f y b commit e g = g y b
  correct_fair (suc left) n k f y b commit e g =
      cond_fair 5 (is_at_rest p.settings.corrector_tol y (corrected_state p.h k.sums f b)) _ _
      (g (corrected_state p.h k.sums f b) b)
      (asks_fair 5 (step_point p k (corrected_state p.h k.sums f b)) _ (on_step n (ap (λ (t : Float). add binary64 t p.h) e)) (λ (c : Triple).
      correct_fair left n k f (corrected_state p.h k.sums f b) c commit e g))

  step_fair : (n : ℕ) (k : Track) (a : List Triple) (commit : State → Triple → Course) → k.t ≡ clock p n
      → ((y : State) (b : Triple) → Fair p 5 (commit y b)) → Fair p 0 (step p k a commit)
  unfolding step step_point
  step_fair n k a commit e g =
      asks_fair 0 (step_point p k (predicted_state p.h k.sums a)) _ (on_step n (ap (λ (t : Float). add binary64 t p.h) e)) (λ (b : Triple).
      correct_fair p.settings.max_corrector_iters n k (fixed_of a) (predicted_state p.h k.sums a) b commit e g)

  march_fair : (left s n : ℕ) (k : Track) (a : List Triple) → k.t ≡ clock p n → Fair p 0 (march left p s k a)
  unfolding march track_on clock
  march_fair zero s n k a e = cond_fair 0 (is_due p k.t) _ _ (exceeds_fair 0) (ends_fair 0 k.t k.state k.steps s)
  march_fair (suc left) s n k a e =
      cond_fair 0 (is_due p k.t) _ _
      (cond_fair 0 (is_tail p k.t) _ _ (tail_fair s n k e)
      (step_fair n k a _ e (λ (y : State) (b : Triple).
      sampled_fair 0 5 (k.steps + 1) (step_sample (track_on p k y b) (slid a b) ∷ []) (march left p s (track_on p k y b) (slid a b))
      (march_fair left s (suc n) (track_on p k y b) (slid a b) (ap (λ (t : Float). add binary64 t p.h) e)) (omega arith))))
      (ends_fair 0 k.t k.state k.steps s)

  fly_fair : (s : ℕ) (x : Places) (a : List Triple) → Fair p 5 (fly p s x a)
  unfolding fly start_track start_samples clock
  fly_fair s x a =
      sampled_fair 0 5 0 (start_samples p x a) (march (p.settings.max_steps - 4) p s (start_track p x a) a)
      (march_fair (p.settings.max_steps - 4) s 0 (start_track p x a) a refl) (omega arith)

  pub asks_as_listed : (r0 v0 : Triple) → AsksAsListed p r0 v0
  unfolding integrate
  asks_as_listed r0 v0 =
      (asks_fair 0 (record { t = p.t0; r = r0; v = v0 }) _ (at_start refl) (λ (b : Triple).
      forward_fair 4 4 (first_places r0 v0) _ (omega arith) (omega arith) (λ (x : Places).
      backward_fair 4 x _ (omega arith) (λ (y : Places).
      survey_fair others y (set nine_zeros 4 b) _ others_points (λ (a : List Triple).
      passes_fair p.settings.max_startup_iters 0 y a (fly p) fly_fair))))).on
