-- Along every path of the startup: the answers that each part takes, and the passes.
use mathlib.Core.Path.{◌≡◌, refl, sym, ◌∙◌, subst}
use Prim.Native.Nat.{ℕ, zero, suc, ◌+◌, ◌*◌, ◌≤◌}
use native.Mathlib.Omega.{arith}
use mathlib.Core.Bool.{Bool, true, false, cond, true≢false}
use mathlib.Core.List.{List, [], ◌∷◌}
use lib.Dec.{eqb}
use lib.ListN.{set, length}
use lib.Ieee.{Float, neg}
use borrow.Author.Tests.{ne_eqb}
use Rattle.triple.specs.declared.Triple.{Triple}
use Rattle.triple.specs.declared.State.{State}
use Rattle.triple.specs.declared.Point.{Point}
use Rattle.triple.specs.Nine.{at, nine_zeros}
use Rattle.rk4.specs.Rk4.{end_of_step}
use Rattle.startup.specs.declared.Places.{Places}
use Rattle.startup.specs.declared.Widest.{Widest}
use Rattle.startup.specs.Points.{point_at, placed, first_places}
use Rattle.startup.specs.Passes.{pass_places, widened, calm_at, is_settled}
use Rattle.plan.specs.declared.Plan.{Plan}
use Rattle.rules.specs.Rules.{Course, rk4, forward, backward, others, survey, renew, passes, integrate, fly}
use Rattle.counting.specs.Paths.{Claims, Always}
use Rattle.counting.specs.Clockwork.{fewest_startups, NeverStops}
use Rattle.counting.proofs.Signs.{PlainWidest, plain_widened, plain_calm, startup_goes_on}

-- at the end of the startup
pub record Started (p : Plan) (e startups : ℕ) : Type 0 where
  pub fewest : fewest_startups p ≤ startups
  pub limited : startups ≤ p.settings.max_startup_iters
  pub answers : e ≡ 41 + 8 * startups
  pub exactly : NeverStops p → startups ≡ p.settings.max_startup_iters

module _ (c : Claims) where
  pub cond_always : (e n : ℕ) (b : Bool) (x y : Course) → (b ≡ true → Always c e n x) → (b ≡ false → Always c e n y) → Always c e n (cond b x y)
  cond_always e n true x y f g = f refl
  cond_always e n false x y f g = g refl

  pub rk4_always : (e n : ℕ) (q : Point) (h : Float) (k : State → Course) → ((y : State) (e' : ℕ) → e' ≡ e + 4 → Always c e' n (k y)) → Always c e n (rk4 q h k)
  unfolding rk4 Always
  rk4_always e n q h k f = λ (l1 l2 l3 l4 : Triple). f (end_of_step q h l1 l2 l3 l4) (e + 1 + 1 + 1 + 1) (omega arith)

  forward_always : (left i e n : ℕ) (p : Plan) (x : Places) (k : Places → Course) → ((x : Places) (e' : ℕ) → e' ≡ e + 4 * left → Always c e' n (k x)) → Always c e n (forward left i p x k)
  unfolding forward
  forward_always zero i e n p x k f = f x e (omega arith)
  forward_always (suc left) i e n p x k f =
      rk4_always e n (point_at p.t0 p.h x i) p.h _ (λ (y : State) (e' : ℕ) (h : e' ≡ e + 4).
      forward_always left (i + 1) e' n p (placed (i + 1) y x) k (λ (x : Places) (e'' : ℕ) (h' : e'' ≡ e' + 4 * left). f x e'' (omega arith)))

  backward_always : (i e n : ℕ) (p : Plan) (x : Places) (k : Places → Course) → ((x : Places) (e' : ℕ) → e' ≡ e + 4 * i → Always c e' n (k x)) → Always c e n (backward i p x k)
  unfolding backward
  backward_always zero e n p x k f = f x e (omega arith)
  backward_always (suc i) e n p x k f =
      rk4_always e n (point_at p.t0 p.h x (suc i)) (neg p.h) _ (λ (y : State) (e' : ℕ) (h : e' ≡ e + 4).
      backward_always i e' n p (placed i y x) k (λ (x : Places) (e'' : ℕ) (h' : e'' ≡ e' + 4 * i). f x e'' (omega arith)))

  survey_always : (is : List ℕ) (e n : ℕ) (p : Plan) (x : Places) (a : List Triple) (k : List Triple → Course)
      → ((a : List Triple) (e' : ℕ) → e' ≡ e + length is → Always c e' n (k a)) → Always c e n (survey is p x a k)
  unfolding survey Always
  survey_always [] e n p x a k f = f a e (omega arith)
  survey_always (i ∷ is) e n p x a k f = λ (b : Triple).
      survey_always is (e + 1) n p x (set a i b) k (λ (a : List Triple) (e' : ℕ) (h : e' ≡ e + 1 + length is). f a e' (omega arith))

  renew_always : (is : List ℕ) (e n : ℕ) (p : Plan) (x : Places) (a : List Triple) (w : Widest) (k : List Triple → Widest → Course) → PlainWidest w
      → ((a : List Triple) (w : Widest) (e' : ℕ) → PlainWidest w → e' ≡ e + length is → Always c e' n (k a w)) → Always c e n (renew is p x a w k)
  unfolding renew Always
  renew_always [] e n p x a w k u f = f a w e u (omega arith)
  renew_always (i ∷ is) e n p x a w k u f = λ (b : Triple).
      renew_always is (e + 1) n p x (set a i b) (widened w (at a i) b) k (plain_widened w (at a i) b u)
      (λ (a : List Triple) (w : Widest) (e' : ℕ) (u : PlainWidest w) (h : e' ≡ e + 1 + length is). f a w e' u (omega arith))

  -- ---- the passes
  fewest_is : (p : Plan) (n : ℕ) → p.settings.max_startup_iters ≤ n → fewest_startups p ≤ n
  unfolding fewest_startups
  fewest_is p n h = go p.settings.max_startup_iters h
    where
      go : (m : ℕ) → m ≤ n → cond (eqb m 0) 0 1 ≤ n
      go zero h = omega arith
      go (suc m) h = subst (λ (b : Bool). cond b 0 1 ≤ n) (sym (ne_eqb (suc m) 0 (λ (e : suc m ≡ 0). omega arith))) (omega arith)

  fewest_one : (p : Plan) (n : ℕ) → fewest_startups p ≤ n + 1
  unfolding fewest_startups
  fewest_one p n = go (eqb p.settings.max_startup_iters 0)
    where
      go : (b : Bool) → cond b 0 1 ≤ n + 1
      go true = omega arith
      go false = omega arith

  passes_always : (left m e n : ℕ) (p : Plan) (x : Places) (a : List Triple) (k : ℕ → Places → List Triple → Course)
      → e ≡ 41 + 8 * m → m + left ≡ p.settings.max_startup_iters
      → ((startups : ℕ) (x : Places) (a : List Triple) (e' : ℕ) → Started p e' startups → Always c e' n (k startups x a)) → Always c e n (passes left m p x a k)
  unfolding passes
  passes_always zero m e n p x a k h u f =
      f m x a e (record { fewest = fewest_is p m (omega arith); limited = omega arith; answers = h; exactly = λ (s : NeverStops p). omega arith })
  passes_always (suc left) m e n p x a k h u f =
      renew_always others e n p (pass_places p.h x a) a (calm_at a) _ (plain_calm a) (λ (a' : List Triple) (w : Widest) (e' : ℕ) (g : PlainWidest w) (h' : e' ≡ e + 8).
      cond_always e' n (is_settled p.settings.startup_tol w) _ _
      (λ (b : is_settled p.settings.startup_tol w ≡ true).
      f (m + 1) (pass_places p.h x a) a' e'
      (record {
        fewest = fewest_one p m;
        limited = omega arith;
        answers = omega arith;
        exactly = λ (s : NeverStops p). absurd (true≢false (sym b ∙ startup_goes_on p.settings.startup_tol w g s.startup));
      }))
      (λ (b : is_settled p.settings.startup_tol w ≡ false). passes_always left (m + 1) e' n p (pass_places p.h x a) a' k (omega arith) (omega arith) f))

  -- ---- 41 answers and 8 for each pass, and then on
  pub startup_always : (p : Plan) (r0 v0 : Triple) → ((startups : ℕ) (x : Places) (a : List Triple) (e : ℕ) → Started p e startups → Always c e 0 (fly p startups x a))
      → Always c 0 0 (integrate p r0 v0)
  unfolding integrate Always
  startup_always p r0 v0 f = λ (b : Triple).
      forward_always 4 4 1 0 p (first_places r0 v0) _ (λ (x : Places) (e1 : ℕ) (h1 : e1 ≡ 1 + 16).
      backward_always 4 e1 0 p x _ (λ (y : Places) (e2 : ℕ) (h2 : e2 ≡ e1 + 16).
      survey_always others e2 0 p y (set nine_zeros 4 b) _ (λ (a : List Triple) (e3 : ℕ) (h3 : e3 ≡ e2 + 8).
      passes_always p.settings.max_startup_iters 0 e3 0 p y a (fly p) (omega arith) (omega arith) f)))
