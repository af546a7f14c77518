-- The startup's points: what is asked after one of them does not read the places and accelerations that are not used there.
use mathlib.Core.Path.{◌≡◌, refl, ◌∙◌, ap, ap₂, fun_ext}
use Prim.Native.Nat.{ℕ, zero, suc, ◌+◌, ◌-◌}
use mathlib.Core.Bool.{cond}
use mathlib.Core.List.{List, [], ◌∷◌}
use lib.ListN.{set}
use lib.Ieee.{Float}
use Rattle.triple.specs.declared.Triple.{Triple}
use Rattle.triple.specs.Nine.{at}
use Rattle.startup.specs.declared.Places.{Places}
use Rattle.startup.specs.declared.Widest.{Widest}
use Rattle.startup.specs.Points.{state_at, point_at}
use Rattle.startup.specs.Passes.{last_sums, pass_places, widened, is_settled}
use Rattle.plan.specs.declared.Plan.{Plan}
use Rattle.run.specs.declared.Body.{Body}
use Rattle.run.specs.declared.waiting.Waiting.{Waiting}
use Rattle.run.specs.declared.waiting.Waiting.TheVariants.{Survey, Pass}
use Rattle.run.specs.Tracks.{start_track}
use Rattle.run.specs.Questions.{question_at}
use Rattle.run.specs.Moves.{surveyed, renewed}
use Rattle.run.specs.Samples.{grid_sample, start_samples}
use Rattle.rules.specs.Rules.{Course, asks, survey, renew, passes, fly}
use Rattle.rules.proofs.Rest.{passed, later, next, rest_at}
use Rattle.blocks.specs.Rows.{row}
use Rattle.stored.specs.Layout.{uses_of, triple_used, used, component, float_no}
use Rattle.stored.specs.Taken.{body_from}
use Rattle.stored.specs.Trips.{kept_float, kept_triple}

abbrev pub whole : List Triple → List ℕ → ℕ → Body
whole ts n s = body_from ts n s

abbrev pub clean : Waiting → List Triple → List ℕ → ℕ → Body
clean w ts n s = body_from (row (kept_triple (uses_of w) ts) 41) n s

abbrev pub Same : Waiting → Type 0
Same w = (ts : List Triple) (n : List ℕ) (s : ℕ) → rest_at w (clean w ts n s) ≡ rest_at w (whole ts n s)

-- ---- the startup's passes: of the places they read the epoch's, and when they are done points 4 to 8
module _ (q0 q1 q2 q3 r0 r1 r2 r3 : Triple) (rs : List Triple) (o0 o1 o2 o3 v0 v1 v2 v3 : Triple) (vs : List Triple) where
  abbrev one : Places
  one = record { r = q0 ∷ q1 ∷ q2 ∷ q3 ∷ rs; v = o0 ∷ o1 ∷ o2 ∷ o3 ∷ vs }

  abbrev other : Places
  other = record { r = r0 ∷ r1 ∷ r2 ∷ r3 ∷ rs; v = v0 ∷ v1 ∷ v2 ∷ v3 ∷ vs }

  fly_same : (p : Plan) (m : ℕ) (a : List Triple) → fly p m one a ≡ fly p m other a
  unfolding fly start_samples grid_sample start_track state_at last_sums
  fly_same p m a = refl

  pub passes_same : (left m : ℕ) (p : Plan) (a : List Triple) → passes left m p one a (fly p) ≡ passes left m p other a (fly p)
  unfolding passes pass_places state_at
  passes_same zero m p a = fly_same p m a
  passes_same (suc left) m p a = refl

  pub ended_same : (tol : Float) (left m : ℕ) (p : Plan) (a : List Triple) (w : Widest)
      → cond (is_settled tol w) (fly p (m + 1) one a) (passes left (m + 1) p one a (fly p)) ≡ cond (is_settled tol w) (fly p (m + 1) other a) (passes left (m + 1) p other a (fly p))
  ended_same tol left m p a w = ap₂ (λ (x y : Course). cond (is_settled tol w) x y) (fly_same p (m + 1) a) (passes_same left (m + 1) p a)

-- the same points are asked
abbrev pub SamePoints : List ℕ → Plan → Places → Places → Type 0
SamePoints [] p x y = Unit {0}
SamePoints (i ∷ is) p x y = (point_at p.t0 p.h x i ≡ point_at p.t0 p.h y i) × SamePoints is p x y

renew_same : (is : List ℕ) (p : Plan) (x y : Places) → SamePoints is p x y → (a : List Triple) (w : Widest) (k l : List Triple → Widest → Course)
    → ((a : List Triple) (w : Widest) → k a w ≡ l a w) → renew is p x a w k ≡ renew is p y a w l
unfolding renew
renew_same [] p x y m a w k l h = h a w
renew_same (i ∷ is) p x y m a w k l h =
    ap₂ asks m.0 (fun_ext (λ (b : Triple). renew_same is p x y m.1 (set a i b) (widened w (at a i) b) k l h))

survey_same : (is : List ℕ) (p : Plan) (x y : Places) → SamePoints is p x y → (a : List Triple) (k l : List Triple → Course)
    → ((a : List Triple) → k a ≡ l a) → survey is p x a k ≡ survey is p y a l
unfolding survey
survey_same [] p x y m a k l h = h a
survey_same (i ∷ is) p x y m a k l h = ap₂ asks m.0 (fun_ext (λ (b : Triple). survey_same is p x y m.1 (set a i b) k l h))

-- where the places of a clean body lie
module _ (w : Waiting) (ts : List Triple) where
  abbrev q : ℕ → Triple
  q i = kept_triple (uses_of w) ts i

  abbrev rs : List Triple
  rs = at ts 4 ∷ at ts 5 ∷ at ts 6 ∷ at ts 7 ∷ at ts 8 ∷ []

  abbrev vs : List Triple
  vs = at ts 13 ∷ at ts 14 ∷ at ts 15 ∷ at ts 16 ∷ at ts 17 ∷ []

  -- the places before the epoch as they are kept, the others as they are
  abbrev pub early : Places
  early = record { r = q 0 ∷ q 1 ∷ q 2 ∷ q 3 ∷ rs; v = q 9 ∷ q 10 ∷ q 11 ∷ q 12 ∷ vs }

  abbrev Ended-as : List ℕ → ℕ → Type 0
  Ended-as n s = (tol : Float) (left m : ℕ) (p : Plan) (a : List Triple) (w : Widest)
      → cond (is_settled tol w) (fly p (m + 1) (early) a)
      (passes left (m + 1) p (early) a (fly p))
      ≡ cond (is_settled tol w) (fly p (m + 1) (whole ts n s).places a) (passes left (m + 1) p (whole ts n s).places a (fly p))

  pub pass_end : (n : List ℕ) (s : ℕ) → Ended-as n s
  unfolding body_from
  pass_end n s = ended_same (q 0) (q 1) (q 2) (q 3) (at ts 0) (at ts 1) (at ts 2) (at ts 3) rs (q 9) (q 10) (q 11) (q 12) (at ts 9) (at ts 10) (at ts 11) (at ts 12) vs

  pub survey_end : (n : List ℕ) (s : ℕ) (left m : ℕ) (p : Plan) (a : List Triple)
      → passes left m p (early) a (fly p) ≡ passes left m p (whole ts n s).places a (fly p)
  unfolding body_from
  survey_end n s = passes_same (q 0) (q 1) (q 2) (q 3) (at ts 0) (at ts 1) (at ts 2) (at ts 3) rs (q 9) (q 10) (q 11) (q 12) (at ts 9) (at ts 10) (at ts 11) (at ts 12) vs

-- ---- a startup point's question: the points still to be asked are the same, and so is what follows them
module _ (i : ℕ) (ts : List Triple) (n : List ℕ) (s : ℕ) where
  abbrev b : Body
  b = whole ts n s

  abbrev left : ℕ
  left = b.plan.settings.max_startup_iters - b.startup_iters

  abbrev after : ℕ
  after = b.plan.settings.max_startup_iters - (b.startup_iters + 1)

  abbrev tol : Float
  tol = b.plan.settings.startup_tol

  pub pass_by : question_at (Pass i) (clean (Pass i) ts n s) ≡ question_at (Pass i) b
      → (clean (Pass i) ts n s).a ≡ b.a
      → (clean (Pass i) ts n s).widest ≡ b.widest
      → (clean (Pass i) ts n s).places ≡ early (Pass i) ts
      → SamePoints (later i) b.plan (clean (Pass i) ts n s).places b.places
      → rest_at (Pass i) (clean (Pass i) ts n s) ≡ rest_at (Pass i) b
  unfolding rest_at next renewed body_from row kept_triple kept_float used triple_used float_no component
  pass_by question a widest places points =
      let c : Body = clean (Pass i) ts n s in
      ap₂ asks question
      (fun_ext (λ (x : Triple).
      ap₂ (λ (l : List Triple) (w : Widest). renew (later i) b.plan c.places (set l i x) (widened w (at l i) x) (passed (renewed i c x))) a widest
      ∙ renew_same (later i) b.plan c.places b.places points (set b.a i x) (widened b.widest (at b.a i) x) (passed (renewed i c x)) (passed (renewed i b x))
      (λ (l : List Triple) (w : Widest).
      ap (λ (p : Places). cond (is_settled tol w) (fly b.plan (b.startup_iters + 1) p l) (passes after (b.startup_iters + 1) b.plan p l (fly b.plan))) places
      ∙ pass_end (Pass i) ts n s tol after b.startup_iters b.plan l w)))

  -- the accelerations that are not asked yet are set before they are read
  pub survey_by : question_at (Survey i) (clean (Survey i) ts n s) ≡ question_at (Survey i) b
      → (clean (Survey i) ts n s).places ≡ early (Survey i) ts
      → ((x : Triple) (k : List Triple → Course) → survey (later i) b.plan b.places (set (clean (Survey i) ts n s).a i x) k ≡ survey (later i) b.plan b.places (set b.a i x) k)
      → SamePoints (later i) b.plan (clean (Survey i) ts n s).places b.places
      → rest_at (Survey i) (clean (Survey i) ts n s) ≡ rest_at (Survey i) b
  unfolding rest_at next surveyed body_from row kept_triple kept_float used triple_used float_no component
  survey_by question places a points =
      let c : Body = clean (Survey i) ts n s in
      ap₂ asks question
      (fun_ext (λ (x : Triple).
      survey_same (later i) b.plan c.places b.places points (set c.a i x)
      (λ (l : List Triple). passes left b.startup_iters b.plan c.places l (fly b.plan))
      (λ (l : List Triple). passes left b.startup_iters b.plan b.places l (fly b.plan))
      (λ (l : List Triple). ap (λ (p : Places). passes left b.startup_iters b.plan p l (fly b.plan)) places ∙ survey_end (Survey i) ts n s left b.startup_iters b.plan l)
      ∙ a x (λ (l : List Triple). passes left b.startup_iters b.plan b.places l (fly b.plan))))
