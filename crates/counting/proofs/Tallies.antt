-- The counts of a fate of whole numbers are 01's K, P and T(4+d).
use mathlib.Core.Path.{◌≡◌, refl, sym, ap, ◌∙◌}
use Prim.Native.Nat.{ℕ, zero, suc, ◌+◌, ◌-◌, ◌*◌, ◌≤◌, ◌<◌}
use native.Mathlib.Nat.{one-mul, zero-mul}
use native.Mathlib.Omega.{arith}
use mathlib.Core.Bool.{Bool, cond}
use lib.Ieee.{Float}
use borrow.Author.Tests.{lt-ltb, le-ltb}
use Rattle.plan.specs.declared.Plan.{Plan}
use Rattle.plan.specs.Limits.{wants_samples}
use Rattle.counting.specs.Clockwork.{Fate, arrives, tails, steps_of, plain_steps, tail_answers, least, most, fewest_startups, NeverStops, Counted}
use Rattle.counting.specs.Counting.{steps_for, tail_for, plain_for, tail_answers_for, least_for, most_for, fewest_for, least_before, most_before}

-- ---- the fate ends in K steps, P of them plain, and its tail takes T(4+d) answers
pub record Same (p : Plan) (f : Fate) (S H : ℕ) : Type 0 where
  pub steps : steps_of f ≡ steps_for S H
  pub plain : plain_steps f ≡ plain_for S H
  pub tail : tail_answers p f ≡ tail_answers_for p.settings S H

module _ (p : Plan) (S H : ℕ) where
  short_one : S < steps_for S H * H → tail_for S H ≡ 1
  unfolding tail_for
  short_one h = ap (λ (c : Bool). cond c 1 0) (lt-ltb S (steps_for S H * H) h)

  full_one : S ≡ steps_for S H * H → tail_for S H ≡ 0
  unfolding tail_for
  full_one h = ap (λ (c : Bool). cond c 1 0) (le-ltb S (steps_for S H * H) (omega arith))

  positive : (k : ℕ) → S < k * H → 1 ≤ k
  positive zero h = absurd (omega arith)
  positive (suc k) h = omega arith

  pub same_tails : S < steps_for S H * H → Same p (tails (steps_for S H - 1)) S H
  unfolding steps_of plain_steps tail_answers plain_for tail_answers_for
  same_tails h =
      let k = positive (steps_for S H) h in
      let t = short_one h in
      record {
        steps = omega arith;
        plain = omega arith;
        tail = sym (ap (λ (i : ℕ). i * (4 + cond (wants_samples p.settings) 1 0)) t ∙ one-mul (4 + cond (wants_samples p.settings) 1 0));
      }

  pub same_arrives : (u : Float) → S ≡ steps_for S H * H → Same p (arrives u (steps_for S H)) S H
  unfolding steps_of plain_steps tail_answers plain_for tail_answers_for
  same_arrives u h =
      let t = full_one h in
      record {
        steps = refl;
        plain = omega arith;
        tail = sym (ap (λ (i : ℕ). i * (4 + cond (wants_samples p.settings) 1 0)) t ∙ zero-mul (4 + cond (wants_samples p.settings) 1 0));
      }

  -- ---- the bounds are 01's, for a number of startup passes and before the run
  pub record Bound (e startups : ℕ) : Type 0 where
    pub at_least : least_for p.settings S H startups ≤ e
    pub at_most : e ≤ most_for p.settings S H startups
    pub at_least_before : least_before p.settings S H ≤ e
    pub at_most_before : e ≤ most_before p.settings S H
    pub exactly : NeverStops p → (startups ≡ p.settings.max_startup_iters) × (e ≡ most_for p.settings S H startups)

  pub bound : (f : Fate) (e n startups : ℕ) → Same p f S H → Counted p f e n startups → Bound e startups
  unfolding least_for most_for least_before most_before least most fewest_for fewest_startups
  bound f e n startups m c =
      let a = m.plain in
      let t = m.tail in
      let x : plain_steps f * (1 + p.settings.max_corrector_iters) ≡ plain_for S H * (1 + p.settings.max_corrector_iters) = ap (λ (i : ℕ). i * (1 + p.settings.max_corrector_iters)) a in
      let l = c.at_least in
      let u = c.at_most in
      let g = c.fewest in
      let h = c.limited in
      record {
        at_least = omega arith;
        at_most = omega arith;
        at_least_before = omega arith;
        at_most_before = omega arith;
        exactly = λ (o : NeverStops p). let y = c.exactly o in let z = y.1 in (y.0, omega arith);
      }
