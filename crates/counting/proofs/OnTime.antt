-- Demand 3: a plan of whole numbers ends on time along every path.
use mathlib.Core.Path.{◌≡◌, refl, sym, ap, ◌∙◌, subst}
use mathlib.Core.Logic.{⊎_elim}
use Prim.Native.Nat.{ℕ, zero, suc, ◌+◌, ◌-◌, ◌*◌, ◌≤◌, ◌<◌}
use native.Mathlib.Nat.{mul-le-mul_right}
use native.Mathlib.Omega.{arith}
use mathlib.Core.Bool.{Bool, true, false, not, cond}
use lib.Dec.{T, ltb, ltb→lt, nltb→le}
use lib.IntN.{ℤ, pos, nat_abs, ◌+ℤ◌, ◌-ℤ◌}
use lib.Signed.{le_z}
use lib.Ieee.{Float}
use borrow.Author.Tests.{eq-eqb, ne_eqb}
use Rattle.triple.specs.declared.Triple.{Triple}
use Rattle.plan.specs.declared.Settings.{Settings}
use Rattle.plan.specs.declared.Plan.{Plan}
use Rattle.plan.specs.Limits.{wants_samples}
use Rattle.plan.specs.Plan.{plan_of}
use Rattle.plan.proofs.Verdicts.{verdict_is}
use Rattle.rules.specs.Rules.{integrate}
use Rattle.whole.specs.Whole.{IsWhole}
use Rattle.whole.proofs.Integers.{plus, less}
use Rattle.whole.proofs.Along.{Along, move_along}
use Rattle.counting.specs.Paths.{Always}
use Rattle.counting.specs.Clockwork.{Fate, arrives, tails, fate_of, steps_of, fewest_startups, Counted, grid_time, sample_time, clockwork}
use Rattle.counting.specs.Counting.{span_of, steps_for, fewest_for, when_for, Bounds, OnTime, on_time, EndsOnTime}
use Rattle.counting.proofs.Marching.{by_the_clock}
use Rattle.counting.proofs.Spans.{Span, whole_finite, grid_on, far_enough}
use Rattle.counting.proofs.Fates.{Reach, steps_reach, fate_is}
use Rattle.counting.proofs.Wholes.{lawful, up, down, up_time, down_time, up_end, down_end}
use Rattle.counting.proofs.Claims.{always_follows}
use Rattle.counting.proofs.Tallies.{Same, same_tails, same_arrives, bound}

module _ {s : Settings} {t0 tf : Float} {z0 zf hz : ℤ} (b : Bounds s t0 tf z0 zf hz) where
  -- ---- at an end
  in_time : (f : Fate) (e n : ℕ) (t : Float) (steps startups : ℕ) → Same (plan_of s t0 tf) f (span_of z0 zf) (nat_abs hz) → IsWhole t zf → steps ≡ steps_of f
      → Counted (plan_of s t0 tf) f e n startups → OnTime s t0 tf z0 zf (nat_abs hz) e n t steps startups
  unfolding plan_of fewest_for fewest_startups
  in_time f e n t steps startups m w k c =
      let x = bound (plan_of s t0 tf) (span_of z0 zf) (nat_abs hz) f e n startups m c in
      record {
        ends_at = w;
        in_steps = k ∙ m.steps;
        samples = c.samples ∙ ap (λ (i : ℕ). cond (wants_samples s) (i + 1) 0) m.steps;
        fewest = c.fewest;
        limited = c.limited;
        at_least = x.at_least;
        at_most = x.at_most;
        at_least_before = x.at_least_before;
        at_most_before = x.at_most_before;
        exactly = x.exactly;
      }

  -- n steps on, in the direction of the end
  abbrev pub Towards : ℕ → ℤ
  Towards m = cond (le_z z0 zf) (z0 +ℤ pos m) (z0 -ℤ pos m)

  when_is : (n : ℕ) (x : Float) → n ≤ steps_for (span_of z0 zf) (nat_abs hz) → (n < steps_for (span_of z0 zf) (nat_abs hz) → IsWhole x (Towards (n * nat_abs hz)))
      → (n ≡ steps_for (span_of z0 zf) (nat_abs hz) → IsWhole x zf) → IsWhole x (when_for z0 zf (nat_abs hz) n)
  unfolding when_for
  when_is n x l f g = go (ltb n K) (ltb→lt n K) (nltb→le n K)
    where
      K : ℕ
      K = steps_for (span_of z0 zf) (nat_abs hz)

      go : (c : Bool) → (T c → n < K) → (T (not c) → K ≤ n) → IsWhole x (cond c (Towards (n * nat_abs hz)) zf)
      go true a b = f (a tt)
      go false a b = let k = b tt in g (omega arith)

  module _ {d : Bool} {P Q : ℕ} (w : Span d (plan_of s t0 tf) P Q (span_of z0 zf) (nat_abs hz))
      (time : (x : Float) (m : ℕ) → m ≤ span_of z0 zf → Along d x (P + m) Q → IsWhole x (Towards m))
      (end : (x : Float) → Along d x (P + span_of z0 zf) Q → IsWhole x zf) where
    abbrev S : ℕ
    S = span_of z0 zf

    abbrev H : ℕ
    H = nat_abs hz

    abbrev K : ℕ
    K = steps_for (span_of z0 zf) (nat_abs hz)

    abbrev p : Plan
    p = plan_of s t0 tf

    reach : Reach S H K
    reach = steps_reach S H b.moves

    grid_time_lem : (n : ℕ) (x : Float) → x ≡ grid_time p n → n * H ≤ S → IsWhole x (Towards (n * H))
    grid_time_lem n x e l = time x (n * H) l (subst (λ (y : Float). Along d y (P + n * H) Q) (sym e) (grid_on w n l))

    before_end : (n : ℕ) → n < K → n * H ≤ S
    before_end n l =
        let r = reach.closely in
        let m : (n + 1) * H ≤ K * H = mul-le-mul_right H (omega arith) in
        omega arith

    some : S < K * H → 1 ≤ K
    some h = go K h
      where
        go : (k : ℕ) → S < k * H → 1 ≤ k
        go zero h = absurd (omega arith)
        go (suc k) h = omega arith

    -- ---- samples
    sample_tails : (n : ℕ) (t : Float) → S < K * H → n ≤ steps_of (tails (K - 1)) → t ≡ sample_time p (tails (K - 1)) n → (n ≤ K) × IsWhole t (when_for z0 zf H n)
    unfolding steps_of sample_time plan_of
    sample_tails n t h l e =
        let k : 1 ≤ K = some h in (
          omega arith,
          when_is n t (omega arith)
              (λ (o : n < K). grid_time_lem n t (e ∙ ap (λ (c : Bool). cond c tf (grid_time p n)) (ne_eqb n (K - 1 + 1) (λ (x : n ≡ K - 1 + 1). omega arith))) (before_end n o))
              (λ (o : n ≡ K). subst (λ (y : Float). IsWhole y zf) (sym (e ∙ ap (λ (c : Bool). cond c tf (grid_time p n)) (eq-eqb n (K - 1 + 1) (omega arith)))) b.end_whole),
        )

    sample_arrives : (u : Float) (n : ℕ) (t : Float) → S ≡ K * H → n ≤ steps_of (arrives u K) → t ≡ sample_time p (arrives u K) n → (n ≤ K) × IsWhole t (when_for z0 zf H n)
    unfolding steps_of sample_time
    sample_arrives u n t h l e = (
      l,
      when_is n t l (λ (o : n < K). grid_time_lem n t e (before_end n o))
          (λ (o : n ≡ K).
          let m : n * H ≡ K * H = ap (λ (i : ℕ). i * H) o in
          end t (subst (λ (y : Float). Along d y (P + S) Q) (sym e) (move_along (P + S) Q (grid_on w n (omega arith)) (omega arith)))),
    )

    -- ---- the claims
    clocked : (r0 v0 : Triple) (f : Fate) → fate_of p ≡ f → Always (clockwork p f) 0 0 (integrate p r0 v0)
    clocked r0 v0 f e = subst (λ (g : Fate). Always (clockwork p g) 0 0 (integrate p r0 v0)) e (by_the_clock p r0 v0)

    tails_on_time : (r0 v0 : Triple) → fate_of p ≡ tails (K - 1) → S < K * H → Always (on_time s t0 tf z0 zf H) 0 0 (integrate p r0 v0)
    unfolding on_time clockwork steps_of plan_of
    tails_on_time r0 v0 e h =
        always_follows (clockwork p (tails (K - 1))) (on_time s t0 tf z0 zf H)
        (λ (n : ℕ) (t : Float) (c : (wants_samples s ≡ true) × (n ≤ steps_of (tails (K - 1))) × (t ≡ sample_time p (tails (K - 1)) n)). let g = sample_tails n t h c.1 c.2 in (c.0, g.0, g.1))
        (λ (a n : ℕ) (t : Float) (steps startups : ℕ) (c : ((t ≡ tf) × (steps ≡ K - 1 + 1)) × Counted p (tails (K - 1)) a n startups).
        in_time (tails (K - 1)) a n t steps startups (same_tails p S H h) (subst (λ (y : Float). IsWhole y zf) (sym c.0.0) b.end_whole) c.0.1 c.1)
        (λ (a n : ℕ) (c : ⊥ × ((startups : ℕ) × Counted p (tails (K - 1)) a n startups)). c.0)
        0 0 (integrate p r0 v0) (clocked r0 v0 (tails (K - 1)) e)

    arrives_on_time : (r0 v0 : Triple) (u : Float) → fate_of p ≡ arrives u K → Along d u (P + S) Q → S ≡ K * H → Always (on_time s t0 tf z0 zf H) 0 0 (integrate p r0 v0)
    unfolding on_time clockwork steps_of plan_of
    arrives_on_time r0 v0 u e X h =
        always_follows (clockwork p (arrives u K)) (on_time s t0 tf z0 zf H)
        (λ (n : ℕ) (t : Float) (c : (wants_samples s ≡ true) × (n ≤ steps_of (arrives u K)) × (t ≡ sample_time p (arrives u K) n)). let g = sample_arrives u n t h c.1 c.2 in (c.0, g.0, g.1))
        (λ (a n : ℕ) (t : Float) (steps startups : ℕ) (c : ((t ≡ u) × (steps ≡ K)) × Counted p (arrives u K) a n startups).
        in_time (arrives u K) a n t steps startups (same_arrives p S H u h) (end t (subst (λ (y : Float). Along d y (P + S) Q) (sym c.0.0) X)) c.0.1 c.1)
        (λ (a n : ℕ) (c : ⊥ × ((startups : ℕ) × Counted p (arrives u K) a n startups)). c.0)
        0 0 (integrate p r0 v0) (clocked r0 v0 (arrives u K) e)

    paths : (r0 v0 : Triple) → EndsOnTime s t0 tf z0 zf hz r0 v0
    unfolding plan_of
    paths r0 v0 =
        record {
          accepted = verdict_is (plan_of s t0 tf) true false (lawful b (whole_finite w.pace.is)) (far_enough w);
          always = ⊎_elim (λ (a : (fate_of p ≡ tails (K - 1)) × (S < K * H)). tails_on_time r0 v0 a.0 a.1)
              (λ (a : (u : Float) × (fate_of p ≡ arrives u K) × Along d u (P + S) Q × (S ≡ K * H)). arrives_on_time r0 v0 a.0 a.1 a.2 a.3) (fate_is w K reach b.enough);
        }

  -- ---- forward and backward
  pub ends_on_time : (r0 v0 : Triple) → EndsOnTime s t0 tf z0 zf hz r0 v0
  ends_on_time r0 v0 = go (le_z z0 zf) refl
    where
      go : (c : Bool) → le_z z0 zf ≡ c → EndsOnTime s t0 tf z0 zf hz r0 v0
      go true e = paths (up b e) (λ (x : Float) (m : ℕ) (l : m ≤ span_of z0 zf) (X : Along false x (plus z0 + m) (less z0)).
          subst (λ (c : Bool). IsWhole x (cond c (z0 +ℤ pos m) (z0 -ℤ pos m))) (sym e) (up_time b m e l X))
          (λ (x : Float) (X : Along false x (plus z0 + span_of z0 zf) (less z0)). up_end b e X) r0 v0
      go false e = paths (down b e) (λ (x : Float) (m : ℕ) (l : m ≤ span_of z0 zf) (X : Along true x (less z0 + m) (plus z0)).
          subst (λ (c : Bool). IsWhole x (cond c (z0 +ℤ pos m) (z0 -ℤ pos m))) (sym e) (down_time b m e l X))
          (λ (x : Float) (X : Along true x (less z0 + span_of z0 zf) (plus z0)). down_end b e X) r0 v0
