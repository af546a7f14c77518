-- A line of calls along a tree on which the claims hold: it never meets 6 or 2, and it finishes as claimed.
use mathlib.Core.Path.{◌≡◌, refl, sym, ap, subst}
use mathlib.Core.Logic.{◌⊎◌, inl, inr}
use Prim.Native.Nat.{ℕ, ◌+◌, ◌%◌, ◌≤◌, ◌<◌}
use native.Mathlib.Nat.{add-zero}
use native.Mathlib.Omega.{arith}
use mathlib.Core.Bool.{Bool, true, false, cond}
use mathlib.Core.List.{List, [], ◌∷◌}
use lib.Dec.{T, eqb, eqb→eq}
use lib.Ieee.Fits.{eq→eqb}
use lib.ListN.{length}
use lib.Ieee.{Float}
use borrow.Author.Tests.{eq-eqb, ne_eqb}
use Rattle.triple.specs.declared.Triple.{Triple}
use Rattle.triple.specs.declared.Point.{Point}
use Rattle.triple.specs.declared.Sample.{Sample}
use Rattle.triple.specs.Arithmetic.{zeros}
use Rattle.run.specs.Limits.{numbering}
use Rattle.run.specs.Samples.{Room, put_all}
use Rattle.rules.specs.Rules.{Course, asks, stores, ends, exceeds}
use Rattle.rules.specs.Asked.{due}
use Rattle.rules.specs.Walk.{Said, question, finished, refused, Call, Result, open_at, over, Stop, settle, called, walk}
use Rattle.counting.specs.Paths.{Claims, Each, Always}
use Rattle.counting.specs.Runs.{Adds, Over, Tells, Going, open_after, answers_in, IsFinished, Finishes}
use Rattle.counting.specs.Rooms.{Holds, RoomAt, Roomy}
use Rattle.counting.proofs.Ahead.{Reached, a_question, the_end, the_limit, reached, samples_ahead, from_there, stop_at, always_ahead, settles}

-- ---- what no end exceeds is exceeded nowhere on the way
pub record Limits (c : Claims) (E N : ℕ) : Type 0 where
  pub answers : (e n : ℕ) (t : Float) (steps startups : ℕ) → c.finish e n t steps startups → e ≤ E
  pub samples : (e n : ℕ) (t : Float) (steps startups : ℕ) → c.finish e n t steps startups → n ≤ N
  pub never : (e n : ℕ) → c.excess e n → ⊥

module _ (c : Claims) (E N : ℕ) (l : Limits c E N) where
  pub under : (e n : ℕ) (k : Course) → Always c e n k → (e ≤ E) × (n + due k ≤ N)
  unfolding Always due
  under e n (asks q k) h = let u = under (e + 1) n (k zeros) (h zeros) in let a = u.0 in let b = u.1 in (omega arith, omega arith)
  under e n (stores i ss k) h = let u = under e (n + length ss) k h.2 in let b = u.1 in (u.0, omega arith)
  under e n (ends t y steps startups) h = let b = l.samples e n t steps startups h in (l.answers e n t steps startups h, omega arith)
  under e n exceeds h = absurd (l.never e n h)

  -- ---- a call, and then the calls that follow
  over_is : (cs : List Call) → Over cs (walk over cs)
  unfolding Over walk called
  over_is [] = tt
  over_is (k ∷ cs) = (refl, refl, refl, over_is cs)

  -- the calls that follow go on from any open question
  abbrev Onward : List Call → Type 0
  Onward cs = (i e n : ℕ) (q : Point) (k : Triple → Course) → ((a : Triple) → Always c (e + 1) n (k a)) → Roomy (open_at i e q k) cs → Going c E i e n cs (walk (open_at i e q k) cs)

  -- what is to be shown of a call's stop, where question i was open
  abbrev Goes : (i number e n : ℕ) → Room → List Call → Stop → Type 0
  Goes i number e n out cs s =
      let m = n + s.stored in
      Adds c.sample n m out s.out
      × Tells c E i number e n m s.said (λ (j : ℕ). Going c E j (e + 1) m cs (walk s.line cs)) (Going c E i e n cs (walk s.line cs)) (Over cs (walk s.line cs))

  -- an answer that is accepted, the (e + 1)-th: by what is reached, and so for every tree
  accepted_at : (i number j e n : ℕ) (out : Room) (cs : List Call) (ss : List Sample) (x : Reached) → number ≡ i → Onward cs → Each c.sample n ss
      → Always c (e + 1) (n + length ss) (from_there x) → Roomy (stop_at x j (e + 1) (length ss) (put_all n ss out)).line cs
      → Goes i number e n out cs (stop_at x j (e + 1) (length ss) (put_all n ss out))
  unfolding Tells Always
  accepted_at i number j e n out cs ss (a_question q k) same f g h r =
      let u : e + 1 + 1 ≤ E = (under (e + 1 + 1) (n + length ss) (k zeros) (h zeros)).0 in
      (record { samples = ss; count = refl; stored = refl; each = g }, (same, omega arith, f j (e + 1) (n + length ss) q k h r))
  accepted_at i number j e n out cs ss (the_end t y steps startups) same f g h r =
      (record { samples = ss; count = refl; stored = refl; each = g }, (same, refl, h, over_is cs))
  accepted_at i number j e n out cs ss the_limit same f g h r = absurd (l.never (e + 1) (n + length ss) h)

  accepted : (i number j e n : ℕ) (out : Room) (cs : List Call) (t : Course) → number ≡ i → Onward cs → Always c (e + 1) n t → Holds out t
      → Roomy (settle t j (e + 1) out).line cs → Goes i number e n out cs (settle t j (e + 1) out)
  accepted i number j e n out cs t same f h w r =
      let s = settles c j (e + 1) n t out h w in
      let x = always_ahead c (e + 1) n t h in
      subst (Goes i number e n out cs) (sym s)
      (accepted_at i number j e n out cs (samples_ahead t) (reached t) same f x.0 x.1 (subst (λ (y : Stop). Roomy y.line cs) s r))

  pub going : (i e n : ℕ) (q : Point) (k : Triple → Course) (cs : List Call) → ((a : Triple) → Always c (e + 1) n (k a)) → Roomy (open_at i e q k) cs → Going c E i e n cs (walk (open_at i e q k) cs)
  unfolding Going walk called Roomy RoomAt Tells put_all Each
  going i e n q k [] h r = tt
  going i e n q k (x ∷ cs) h r =
      go (eqb i x.number) (eqb→eq i x.number) (λ (f : x.number ≡ i). eq→eqb (sym f))
      (λ (i e n : ℕ) (q : Point) (k : Triple → Course) (h : (a : Triple) → Always c (e + 1) n (k a)) (r : Roomy (open_at i e q k) cs). going i e n q k cs h r)
      r.0 r.1
    where
      stop : Bool → Stop
      stop b = cond b (settle (k x.a) ((i + 1) % numbering) (e + 1) x.out) (record { said = refused 8; stored = 0; out = x.out; line = open_at i e q k })

      go : (b : Bool) → (T b → i ≡ x.number) → (x.number ≡ i → T b) → Onward cs → (b ≡ true → Holds x.out (k x.a)) → Roomy (stop b).line cs
          → Goes i x.number e n x.out cs (stop b)
      go true y z f w r =
          accepted i x.number ((i + 1) % numbering) e n x.out cs (k x.a) (sym (y tt)) f (h x.a) (w refl) r
      go false y z f w r =
          (record { samples = []; count = refl; stored = refl; each = tt }, (refl, z, add-zero n, f i e n q k h r))

  -- ---- whoever answers every question comes to the end
  pub finishing : (i e n : ℕ) (cs : List Call) (rs : List Result) → Going c E i e n cs rs → e < E → E ≤ e + answers_in i cs rs → Finishes rs
  unfolding Going Tells answers_in Finishes
  finishing i e n [] [] g l u = absurd (omega arith)
  finishing i e n [] (r ∷ rs) g l u = absurd g
  finishing i e n (k ∷ ks) [] g l u = absurd g
  finishing i e n (k ∷ ks) (r ∷ rs) g l u =
      go r.said g.1 u
      (λ (j : ℕ) (h : Going c E j (e + 1) (n + r.stored) ks rs) (m : e + 1 < E) (o : E ≤ e + 1 + answers_in j ks rs). finishing j (e + 1) (n + r.stored) ks rs h m o)
      (λ (h : Going c E i e n ks rs) (o : E ≤ e + answers_in i ks rs). finishing i e n ks rs h l o)
    where
      go : (s : Said) → Tells c E i k.number e n (n + r.stored) s (λ (j : ℕ). Going c E j (e + 1) (n + r.stored) ks rs) (Going c E i e n ks rs) (Over ks rs)
          → E ≤ e + (cond (eqb i k.number) 1 0 + answers_in (open_after i s) ks rs)
          → ((j : ℕ) → Going c E j (e + 1) (n + r.stored) ks rs → e + 1 < E → E ≤ e + 1 + answers_in j ks rs → Finishes rs)
          → (Going c E i e n ks rs → E ≤ e + answers_in i ks rs → Finishes rs) → IsFinished s ⊎ Finishes rs
      go (question j p) t o f h = let a : ◌≡◌ {A = ℕ} (cond (eqb i k.number) 1 0) 1 = ap (λ (b : Bool). cond {A = ℕ} b 1 0) (eq-eqb i k.number (sym t.0)) in inr (f j t.2 t.1 (omega arith))
      go (finished t y evals steps startups) t' o f h = inl tt
      go (refused x) t o f h = let a : ◌≡◌ {A = ℕ} (cond (eqb i k.number) 1 0) 0 = ap (λ (b : Bool). cond {A = ℕ} b 1 0) (ne_eqb i k.number (λ (e : i ≡ k.number). t.1 (sym e))) in inr (h t.3 (omega arith))
