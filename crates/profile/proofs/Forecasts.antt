-- The forecast, test by test: 5, 12, 13, 1, 14.
use Rattle.std.proofs.Common.{◌≡◌, ℕ, ◌≤◌, Bool, true, cond, not, ltb, nat_abs, sym, ap, ◌∙◌, arith, Result, Ok, Err}
use lib.Ieee.{Float}
use Rattle.triple.specs.Doubles.{Double}
use Rattle.refusals.specs.declared.Refusal.{Refusal}
use Rattle.profile.specs.declared.Cost.{Cost}
use Rattle.refusals.specs.declared.Refusal.TheVariants.{StepNotFinite, Setting, BlankDate, NotWhole, TooFewSteps}
use Rattle.plan.specs.declared.Settings.{Settings}
use Rattle.plan.specs.declared.Plan.{Plan}
use Rattle.plan.specs.Limits.{are_within_limits}
use Rattle.plan.specs.Plan.{plan_of, is_too_near}
use Rattle.plan.specs.Lawful.{is_dated, is_lawful}
use Rattle.run.specs.Ready.{Small}
use Rattle.run.proofs.Counts.{to_small}
use Rattle.counting.specs.Counting.{span_of, steps_for}
use Rattle.profile.specs.Wholes.{whole_of, are_whole}
use Rattle.profile.specs.Costs.{span_in, step_in, cost_for, forecast_of}
use Rattle.profile.specs.Countable.{far_apart, Countable, Far, Apart}
use Rattle.profile.proofs.Plainly.{three, far}

-- ---- within the bounds
pub countable : (t0 tf h : Float) (span step : ℕ) → are_whole t0 tf h ≡ true → span ≤ far_apart → step ≡ nat_abs (whole_of h) → Countable span step
countable t0 tf h span step w l e = let t = three t0 tf h w in let a = t.moves in let b = t.slow in (omega arith, omega arith, l)

module _ (s : Settings) (t0 tf : Float) where
  abbrev p : Plan
  p = plan_of s t0 tf

  abbrev K : ℕ
  K = steps_for (span_in t0 tf) (step_in s)

  abbrev chain : (l d w n k : Bool) → Result Cost Refusal
  chain l d w n k =
      cond (not l) (Err Setting) (cond (not d) (Err BlankDate) (cond (not w) (Err NotWhole)
      (cond n (Err StepNotFinite) (cond k (Err TooFewSteps) (Ok (cost_for s (span_in t0 tf) (step_in s)))))))

  pub by_tests : (l d w n k : Bool) → are_within_limits s ≡ l → is_dated p ≡ d → are_whole t0 tf s.h ≡ w → is_too_near p ≡ n → ltb s.max_steps K ≡ k → forecast_of s t0 tf ≡ chain l d w n k
  unfolding forecast_of
  by_tests l d w n k e f g h i =
      ap (λ (z : Bool). chain z (is_dated p) (are_whole t0 tf s.h) (is_too_near p) (ltb s.max_steps K)) e
      ∙ ap (λ (z : Bool). chain l z (are_whole t0 tf s.h) (is_too_near p) (ltb s.max_steps K)) f
      ∙ ap (λ (z : Bool). chain l d z (is_too_near p) (ltb s.max_steps K)) g
      ∙ ap (λ (z : Bool). chain l d w z (ltb s.max_steps K)) h
      ∙ ap (λ (z : Bool). chain l d w n z) i

  -- ---- what the code holds: its steps, span and step
  pub far_is : (span step n : ℕ) → Double t0 → Double tf → Double s.h → span ≡ span_of (whole_of t0) (whole_of tf) → span ≤ far_apart → step ≡ nat_abs (whole_of s.h) → Apart s t0 tf n → Far span step n
  unfolding span_in step_in
  far_is span step n a b c e l f x =
      let h = far s t0 tf a b c x.0 x.1 in
      (countable t0 tf s.h span step x.0 l f, omega arith, x.2 ∙ ap (λ (i : ℕ). steps_for i (nat_abs (whole_of s.h))) (sym e) ∙ ap (steps_for span) (sym f))

  pub small : are_within_limits s ≡ true → is_dated p ≡ true → Small s
  unfolding is_lawful plan_of
  small e f = to_small p (rw (e) f)
