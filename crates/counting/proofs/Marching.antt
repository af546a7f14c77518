-- Along every path of the steps and the tail: the clock alone decides.
use mathlib.Core.Path.{◌≡◌, refl, sym, ap, ◌∙◌, subst}
use Prim.Native.Nat.{ℕ, zero, suc, ◌+◌, ◌-◌, ◌≤◌}
use native.Mathlib.Numerals.{add-one}
use native.Mathlib.Omega.{arith}
use mathlib.Core.Bool.{Bool, true, false, cond, true≢false}
use mathlib.Core.List.{List, [], ◌∷◌}
use lib.Ieee.{Float, binary64, add}
use borrow.Author.Tests.{eq-eqb}
use Rattle.triple.specs.declared.Triple.{Triple}
use Rattle.triple.specs.declared.State.{State}
use Rattle.triple.specs.declared.Sample.{Sample}
use Rattle.triple.specs.Nine.{slid}
use Rattle.sums.specs.declared.Fixed.{Fixed}
use Rattle.sums.specs.Sums.{predicted_state, fixed_of, corrected_state}
use Rattle.startup.specs.declared.Places.{Places}
use Rattle.startup.specs.Points.{time_at}
use Rattle.plan.specs.declared.Plan.{Plan}
use Rattle.plan.specs.Limits.{wants_samples}
use Rattle.run.specs.declared.Track.{Track}
use Rattle.conditions.specs.Conditions.{left_at, is_due, is_tail, is_at_rest}
use Rattle.run.specs.Tracks.{start_track, track_on, tail_from}
use Rattle.run.specs.Samples.{grid_sample, start_samples, step_sample, last_sample}
use Rattle.rules.specs.Rules.{Course, stores, ends, exceeds, sampled, tail, correct, step, march, fly}
use Rattle.rules.specs.Asked.{clock}
use Rattle.counting.specs.Paths.{Each, Always}
use Rattle.counting.specs.Clockwork.{Fate, arrives, tails, runs_out, fate_from, fate_of, steps_of, plain_steps, tail_answers, NeverStops, Counted, grid_time, sample_time, EndsBy, RunsOut, clockwork, ByTheClock}
use Rattle.counting.proofs.Signs.{corrector_goes_on}
use Rattle.counting.proofs.Startup.{Started, cond_always, rk4_always, startup_always}
use Rattle.counting.proofs.Heads.{Running, kept, kept_all, kept_none, stored, Ahead, nearer, ahead, on_grid, clock_grid, counted}

module _ (p : Plan) (f : Fate) where
  -- ---- the ends
  arrived : (e j startups : ℕ) (t : Float) (y : State) → f ≡ arrives t (4 + j) → Running p e j startups → Always (clockwork p f) e (kept p (4 + j + 1)) (ends t y (4 + j) startups)
  unfolding Always clockwork plain_steps tail_answers steps_of
  arrived e j startups t y h r =
      subst (λ (g : Fate). EndsBy p g t (4 + j) × Counted p g e (kept p (4 + j + 1)) startups) (sym h)
      ((refl, refl), counted p (arrives t (4 + j)) e e (kept p (4 + j + 1)) j startups (omega arith) (omega arith) refl r)

  exhausted : (e j startups : ℕ) → f ≡ runs_out (4 + j) → Running p e j startups → Always (clockwork p f) e (kept p (4 + j + 1)) exceeds
  unfolding Always clockwork plain_steps tail_answers steps_of
  exhausted e j startups h r =
      subst (λ (g : Fate). RunsOut g × ((s : ℕ) × Counted p g e (kept p (4 + j + 1)) s)) (sym h)
      (tt, (startups, counted p (runs_out (4 + j)) e e (kept p (4 + j + 1)) j startups (omega arith) (omega arith) refl r))

  -- the finished state after the tail; n samples are stored
  landed : (e e' n j startups : ℕ) (y : State) → f ≡ tails (4 + j) → e' ≡ e + (4 + kept p 1) → n ≡ kept p (4 + j + 1 + 1) → Running p e j startups
      → Always (clockwork p f) e' n (ends p.tf y (4 + j + 1) startups)
  unfolding Always clockwork plain_steps tail_answers steps_of kept
  landed e e' n j startups y h g k r =
      subst (λ (g : Fate). EndsBy p g p.tf (4 + j + 1) × Counted p g e' n startups) (sym h)
      ((refl, refl), counted p (tails (4 + j)) e e' n j startups (omega arith) g k r)

  tail_sample : (j : ℕ) → f ≡ tails (4 + j) → (4 + j + 1 ≤ steps_of f) × (p.tf ≡ sample_time p f (4 + j + 1))
  unfolding steps_of sample_time
  tail_sample j h =
      subst (λ (g : Fate). (4 + j + 1 ≤ steps_of g) × (p.tf ≡ sample_time p g (4 + j + 1))) (sym h)
      (omega arith, sym (ap (λ (b : Bool). cond b p.tf (grid_time p (4 + j + 1))) (eq-eqb (4 + j + 1) (4 + j + 1) refl)))

  -- with samples one more question and the last sample
  tail_stored : (e e' j startups : ℕ) (y : State) (a : Triple) → f ≡ tails (4 + j) → e' ≡ e + 4 → Running p e j startups → wants_samples p.settings ≡ true
      → Always (clockwork p f) (e' + 1) (kept p (4 + j + 1)) (stores (4 + j + 1) (last_sample p y a ∷ []) (ends p.tf y (4 + j + 1) startups))
  unfolding last_sample clockwork
  tail_stored e e' j startups y a h g r b =
      let x = kept_all p (4 + j + 1) b in
      let z = kept_all p (4 + j + 1 + 1) b in
      let o = kept_all p 1 b in
      stored (clockwork p f) (e' + 1) (kept p (4 + j + 1)) (kept p (4 + j + 1 + 1)) (4 + j + 1) (last_sample p y a) (ends p.tf y (4 + j + 1) startups)
      (sym x) (omega arith) (b, (tail_sample j h).0, (tail_sample j h).1)
      (landed e (e' + 1) (kept p (4 + j + 1 + 1)) j startups y h (omega arith) refl r)

  tail_bare : (e e' j startups : ℕ) (y : State) → f ≡ tails (4 + j) → e' ≡ e + 4 → Running p e j startups → wants_samples p.settings ≡ false
      → Always (clockwork p f) e' (kept p (4 + j + 1)) (ends p.tf y (4 + j + 1) startups)
  tail_bare e e' j startups y h g r b =
      let o = kept_none p 1 b in
      landed e e' (kept p (4 + j + 1)) j startups y h (omega arith) (kept_none p (4 + j + 1) b ∙ sym (kept_none p (4 + j + 1 + 1) b)) r

  tail_always : (e j startups : ℕ) (k : Track) → k.steps ≡ 4 + j → f ≡ tails (4 + j) → Running p e j startups → Always (clockwork p f) e (kept p (4 + j + 1)) (tail p startups k)
  unfolding tail Always
  tail_always e j startups k u h r =
      rk4_always (clockwork p f) e (kept p (4 + j + 1)) (tail_from k) (left_at p k.t) _ (λ (y : State) (e' : ℕ) (g : e' ≡ e + 4).
      cond_always (clockwork p f) e' (kept p (4 + j + 1)) (wants_samples p.settings) _ _
      (λ (b : wants_samples p.settings ≡ true) (a : Triple).
      subst (λ (m : ℕ). Always (clockwork p f) (e' + 1) (kept p (4 + j + 1)) (stores (m + 1) (last_sample p y a ∷ []) (ends p.tf y (m + 1) startups))) (sym u)
      (tail_stored e e' j startups y a h g r b))
      (λ (b : wants_samples p.settings ≡ false).
      subst (λ (m : ℕ). Always (clockwork p f) e' (kept p (4 + j + 1)) (ends p.tf y (m + 1) startups)) (sym u) (tail_bare e e' j startups y h g r b)))

  -- ---- a step: one answer, and at most one more for each pass
  correct_always : (left e n : ℕ) (k : Track) (x : Fixed) (y : State) (b : Triple) (commit : State → Triple → Course)
      → ((y : State) (b : Triple) (e' : ℕ) → e ≤ e' → e' ≤ e + left → (NeverStops p → e' ≡ e + left) → Always (clockwork p f) e' n (commit y b))
      → Always (clockwork p f) e n (correct left p k x y b commit)
  unfolding correct Always
  correct_always zero e n k x y b commit g = g y b e (omega arith) (omega arith) (λ (s : NeverStops p). omega arith)
  correct_always (suc left) e n k x y b commit g =
      let z = corrected_state p.h k.sums x b in
      cond_always (clockwork p f) e n (is_at_rest p.settings.corrector_tol y z) _ _
      (λ (c : is_at_rest p.settings.corrector_tol y z ≡ true).
      g z b e (omega arith) (omega arith) (λ (s : NeverStops p). absurd (true≢false (sym c ∙ corrector_goes_on p.settings.corrector_tol y z s.corrector))))
      (λ (c : is_at_rest p.settings.corrector_tol y z ≡ false) (a : Triple).
      correct_always left (e + 1) n k x z a commit (λ (y : State) (b : Triple) (e' : ℕ) (l : e + 1 ≤ e') (u : e' ≤ e + 1 + left) (o : NeverStops p → e' ≡ e + 1 + left).
      g y b e' (omega arith) (omega arith) (λ (s : NeverStops p). let q = o s in omega arith)))

  -- a step on, after e' answers
  run_on : (e e' j startups : ℕ) → Running p e j startups → e + 1 ≤ e' → e' ≤ e + 1 + p.settings.max_corrector_iters
      → (NeverStops p → e' ≡ e + 1 + p.settings.max_corrector_iters) → Running p e' (j + 1) startups
  run_on e e' j startups r l u o =
      let a = r.low in
      let b = r.high in
      record {
        fewest = r.fewest;
        limited = r.limited;
        low = omega arith;
        high = omega arith;
        exactly = λ (s : NeverStops p). let y = r.exactly s in let z = y.1 in let q = o s in (y.0, omega arith);
      }

  -- the commit's sample, if wanted, and the steps that are left
  commit_always : (e j : ℕ) (s : Sample) (k : Course) → s.t ≡ clock p (j + 1) → Ahead (4 + (j + 1)) f
      → Always (clockwork p f) e (kept p (4 + (j + 1) + 1)) k → Always (clockwork p f) e (kept p (4 + j + 1)) (sampled p (4 + j + 1) (s ∷ []) k)
  unfolding sampled clockwork
  commit_always e j s k h o a =
      cond_always (clockwork p f) e (kept p (4 + j + 1)) (wants_samples p.settings) _ _
      (λ (b : wants_samples p.settings ≡ true).
      let x = kept_all p (4 + j + 1) b in
      let z = kept_all p (4 + (j + 1) + 1) b in
      let i : 4 + (j + 1) ≡ 4 + j + 1 = omega arith in
      stored (clockwork p f) e (kept p (4 + j + 1)) (kept p (4 + (j + 1) + 1)) (4 + j + 1) s k (sym x) (omega arith)
      (subst (λ (m : ℕ). (wants_samples p.settings ≡ true) × (m ≤ steps_of f) × (s.t ≡ sample_time p f m)) i
      (let g = on_grid p f (4 + (j + 1)) s.t o (h ∙ clock_grid p (j + 1)) in (b, g.0, g.1))) a)
      (λ (b : wants_samples p.settings ≡ false).
      subst (λ (m : ℕ). Always (clockwork p f) e m k) (kept_none p (4 + (j + 1) + 1) b ∙ sym (kept_none p (4 + j + 1) b)) a)

  march_always : (left e j startups : ℕ) (k : Track) (a : List Triple) → k.steps ≡ 4 + j → k.t ≡ clock p j → f ≡ fate_from left p k.t (4 + j) → Running p e j startups
      → Always (clockwork p f) e (kept p (4 + j + 1)) (march left p startups k a)
  unfolding march fate_from track_on clock step Always step_sample
  march_always zero e j startups k a u c h r = go (is_due p k.t) h
    where
      go : (b : Bool) → f ≡ cond b (runs_out (4 + j)) (arrives k.t (4 + j))
          → Always (clockwork p f) e (kept p (4 + j + 1)) (cond b exceeds (ends k.t k.state k.steps startups))
      go true h = exhausted e j startups h r
      go false h = subst (λ (m : ℕ). Always (clockwork p f) e (kept p (4 + j + 1)) (ends k.t k.state m startups)) (sym u) (arrived e j startups k.t k.state h r)
  march_always (suc left) e j startups k a u c h r =
      go (is_due p k.t) (is_tail p k.t) h
      (λ (h' : f ≡ fate_from left p (add binary64 k.t p.h) (4 + j + 1)) (y : State) (b : Triple) (e' : ℕ) (r' : Running p e' (j + 1) startups).
      march_always left e' (j + 1) startups (track_on p k y b) (slid a b) (steps_on y b) (time_on y b) (h' ∙ ap (λ (t : Float). fate_from left p t (4 + j + 1)) (time_is y b) ∙ ap (fate_from left p (track_on p k y b).t) later) r')
    where
      later : 4 + j + 1 ≡ 4 + (j + 1)
      later = omega arith

      time_is : (y : State) (b : Triple) → add binary64 k.t p.h ≡ (track_on p k y b).t
      time_is y b = refl

      time_on : (y : State) (b : Triple) → (track_on p k y b).t ≡ clock p (j + 1)
      time_on y b = ap (λ (t : Float). add binary64 t p.h) c ∙ sym (ap (clock p) (add-one j))

      steps_on : (y : State) (b : Triple) → (track_on p k y b).steps ≡ 4 + (j + 1)
      steps_on y b = ap (λ (m : ℕ). m + 1) u ∙ later

      go : (b s : Bool) → f ≡ cond b (cond s (tails (4 + j)) (fate_from left p (add binary64 k.t p.h) (4 + j + 1))) (arrives k.t (4 + j))
          → (f ≡ fate_from left p (add binary64 k.t p.h) (4 + j + 1) → (y : State) (b : Triple) (e' : ℕ) → Running p e' (j + 1) startups
          → Always (clockwork p f) e' (kept p (4 + (j + 1) + 1)) (march left p startups (track_on p k y b) (slid a b)))
          → Always (clockwork p f) e (kept p (4 + j + 1))
          (cond b
          (cond s (tail p startups k)
          (step p k a (λ (y : State) (b : Triple). sampled p (k.steps + 1) (step_sample (track_on p k y b) (slid a b) ∷ []) (march left p startups (track_on p k y b) (slid a b)))))
          (ends k.t k.state k.steps startups))
      go true true h i = tail_always e j startups k u h r
      go false s h i = subst (λ (m : ℕ). Always (clockwork p f) e (kept p (4 + j + 1)) (ends k.t k.state m startups)) (sym u) (arrived e j startups k.t k.state h r)
      go true false h i =
          λ (b : Triple). correct_always p.settings.max_corrector_iters (e + 1) (kept p (4 + j + 1)) k (fixed_of a) (predicted_state p.h k.sums a) b _
          (λ (y : State) (b : Triple) (e' : ℕ) (l : e + 1 ≤ e') (v : e' ≤ e + 1 + p.settings.max_corrector_iters) (o : NeverStops p → e' ≡ e + 1 + p.settings.max_corrector_iters).
          subst (λ (m : ℕ). Always (clockwork p f) e' (kept p (4 + j + 1)) (sampled p (m + 1) (step_sample (track_on p k y b) (slid a b) ∷ []) (march left p startups (track_on p k y b) (slid a b)))) (sym u)
          (commit_always e' j (step_sample (track_on p k y b) (slid a b)) (march left p startups (track_on p k y b) (slid a b)) (time_on y b)
          (subst (Ahead (4 + (j + 1))) (sym (h ∙ ap (fate_from left p (add binary64 k.t p.h)) later)) (ahead left p (add binary64 k.t p.h) (4 + (j + 1))))
          (i h y b e' (run_on e e' j startups r l v o))))

-- ---- from the end of the startup
fly_always : (p : Plan) (startups : ℕ) (x : Places) (a : List Triple) (e : ℕ) → Started p e startups → Always (clockwork p (fate_of p)) e 0 (fly p startups x a)
unfolding fly sampled Always Each clockwork start_track start_samples grid_sample fate_of grid_time clock
fly_always p startups x a e s =
    cond_always (clockwork p f) e 0 (wants_samples p.settings) _ _
    (λ (b : wants_samples p.settings ≡ true). (refl, (on 0 b (omega arith) refl, (on 1 b (omega arith) refl, (on 2 b (omega arith) refl, (on 3 b (omega arith) refl, (on 4 b (omega arith) refl, tt))))), subst (λ (n : ℕ). Always (clockwork p f) e n steps) (kept_all p 5 b) marched))
    (λ (b : wants_samples p.settings ≡ false). subst (λ (n : ℕ). Always (clockwork p f) e n steps) (kept_none p 5 b) marched)
  where
    f : Fate
    f = fate_of p

    on : (i : ℕ) {t : Float} → wants_samples p.settings ≡ true → i ≤ 4 → t ≡ grid_time p i → (wants_samples p.settings ≡ true) × (i ≤ steps_of f) × (t ≡ sample_time p f i)
    on i {t} b l h = let g = on_grid p f i t (nearer i 4 f l (ahead (p.settings.max_steps - 4) p (time_at p.t0 p.h 8) 4)) h in (b, g.0, g.1)

    steps : Course
    steps = march (p.settings.max_steps - 4) p startups (start_track p x a) a

    running : Running p e 0 startups
    running =
        let h = s.answers in
        record {
          fewest = s.fewest;
          limited = s.limited;
          low = omega arith;
          high = omega arith;
          exactly = λ (n : NeverStops p). (s.exactly n, omega arith);
        }

    marched : Always (clockwork p f) e (kept p 5) steps
    marched = march_always p f (p.settings.max_steps - 4) e 0 startups (start_track p x a) a refl refl refl running

pub by_the_clock : (p : Plan) (r0 v0 : Triple) → ByTheClock p r0 v0
by_the_clock p r0 v0 = startup_always (clockwork p (fate_of p)) p r0 v0 (fly_always p)
