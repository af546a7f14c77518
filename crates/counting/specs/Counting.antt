-- 01, "Counting beforehand", for whole numbers: z0 is the start, zf the end, and `step` the step's size.
-- Demand 3 is `EndsOnTime`; the proof is `ends_on_time` in proofs/OnTime.antt.
use Rattle.std.specs.Prelude.{◌≡◌, ℕ, ◌+◌, ◌-◌, ◌*◌, ◌/◌, ◌^◌, ◌≤◌, true, cond, eqb, ltb, ℤ, pos, nat_abs, ◌+ℤ◌, ◌-ℤ◌, Float, Ok}
use Rattle.std.specs.Int.Signed.{le_z}
use Rattle.triple.specs.declared.Triple.{Triple}
use Rattle.plan.specs.declared.Settings.{Settings}
use Rattle.plan.specs.Limits.{are_within_limits, wants_samples}
use Rattle.plan.specs.Plan.{plan_of}
use Rattle.plan.specs.Verdict.{verdict_on}
use Rattle.rules.specs.Rules.{integrate}
use Rattle.whole.specs.Whole.{IsWhole}
use Rattle.counting.specs.Paths.{Claims, Always}
use Rattle.counting.specs.Clockwork.{NeverStops}

-- abs(tf-t0)
unfoldable pub span_of : (z0 zf : ℤ) → ℕ
span_of z0 zf = nat_abs (zf -ℤ z0)

-- K: the span over the step, rounded up
unfoldable pub steps_for : (span step : ℕ) → ℕ
steps_for span step = (span + (step - 1)) / step

-- "K is the least whole number with K·abs(h) >= abs(tf-t0)": proved of `steps_for` as `steps_least`
pub record Least (span step K : ℕ) : Type 0 where
  pub reaches : span ≤ K * step
  pub least : (k : ℕ) → span ≤ k * step → K ≤ k

-- "T = 1 if K·abs(h) exceeds the span, else 0."
unfoldable pub tail_for : (span step : ℕ) → ℕ
tail_for span step = cond (ltb span (steps_for span step * step)) 1 0

-- "P = K-4-T."
unfoldable pub plain_for : (span step : ℕ) → ℕ
plain_for span step = steps_for span step - 4 - tail_for span step

-- T(4+d): "d = 1 with samples, else 0"
unfoldable pub tail_answers_for : Settings → (span step : ℕ) → ℕ
tail_answers_for s span step = tail_for span step * (4 + cond (wants_samples s) 1 0)

-- "Accepted answers lie from 41 + 8S + P + T(4+d) to 41 + 8S + P(1+C) + T(4+d), where S is the startup passes made"; "C = max_corrector_iters"
unfoldable pub least_for : Settings → (span step startups : ℕ) → ℕ
least_for s span step startups = 41 + 8 * startups + plain_for span step + tail_answers_for s span step

unfoldable pub most_for : Settings → (span step startups : ℕ) → ℕ
most_for s span step startups = 41 + 8 * startups + plain_for span step * (1 + s.max_corrector_iters) + tail_answers_for s span step

-- "Before the run, the lower bound takes S as 1 (0 if max_startup_iters is 0) and the upper takes max_startup_iters."
unfoldable pub fewest_for : Settings → ℕ
fewest_for s = cond (eqb s.max_startup_iters 0) 0 1

unfoldable pub least_before : Settings → (span step : ℕ) → ℕ
least_before s span step = least_for s span step (fewest_for s)

unfoldable pub most_before : Settings → (span step : ℕ) → ℕ
most_before s span step = most_for s span step s.max_startup_iters

-- n steps from the start, towards the end; the last at the end itself
unfoldable pub when_for : (z0 zf : ℤ) (step n : ℕ) → ℤ
when_for z0 zf step n =
    cond (ltb n (steps_for (span_of z0 zf) step)) (cond (le_z z0 zf) (z0 +ℤ pos (n * step)) (z0 -ℤ pos (n * step))) zf

-- "at most 2^50 in size"
abbrev pub farthest : ℕ
farthest = 2 ^ 50

-- "Bounds: t0, tf whole, at most 2^50 in size; h whole, 1 to 10^9 in size"; and eight steps at least, settings within the limits, steps enough
pub record Bounds (s : Settings) (t0 tf : Float) (z0 zf hz : ℤ) : Type 0 where
  pub start_whole : IsWhole t0 z0
  pub end_whole : IsWhole tf zf
  pub step_whole : IsWhole s.h hz
  pub start_size : nat_abs z0 ≤ farthest
  pub end_size : nat_abs zf ≤ farthest
  pub step_size : nat_abs hz ≤ 10 ^ 9
  pub moves : 1 ≤ nat_abs hz
  pub far : 8 * nat_abs hz ≤ span_of z0 zf
  pub limits : are_within_limits s ≡ true
  pub enough : steps_for (span_of z0 zf) (nat_abs hz) ≤ s.max_steps

-- the finished state, after e answers and n samples: on time, in K steps, within the bounds
pub record OnTime (s : Settings) (t0 tf : Float) (z0 zf : ℤ) (step : ℕ) (e n : ℕ) (t : Float) (steps startups : ℕ) : Type 0 where
  pub ends_at : IsWhole t zf
  pub in_steps : steps ≡ steps_for (span_of z0 zf) step
  pub samples : n ≡ cond (wants_samples s) (steps_for (span_of z0 zf) step + 1) 0
  pub fewest : fewest_for s ≤ startups
  pub limited : startups ≤ s.max_startup_iters
  pub at_least : least_for s (span_of z0 zf) step startups ≤ e
  pub at_most : e ≤ most_for s (span_of z0 zf) step startups
  pub at_least_before : least_before s (span_of z0 zf) step ≤ e
  pub at_most_before : e ≤ most_before s (span_of z0 zf) step
  -- "With both tolerances zero or less S is max_startup_iters and the upper number is met."
  pub exactly : NeverStops (plan_of s t0 tf) → (startups ≡ s.max_startup_iters) × (e ≡ most_for s (span_of z0 zf) step startups)

-- samples are stored only where they are wanted; sample n stands exactly n steps from the start, the last at the end; no path runs out of steps
unfoldable pub on_time : Settings → (t0 tf : Float) → (z0 zf : ℤ) → (step : ℕ) → Claims
on_time s t0 tf z0 zf step =
    record {
      sample = λ (n : ℕ) (t : Float). (wants_samples s ≡ true) × (n ≤ steps_for (span_of z0 zf) step) × IsWhole t (when_for z0 zf step n);
      finish = λ (e n : ℕ) (t : Float) (steps startups : ℕ). OnTime s t0 tf z0 zf step e n t steps startups;
      excess = λ (e n : ℕ). ⊥;
    }

-- a start within the bounds is accepted, and every path of its tree ends on time
pub record EndsOnTime (s : Settings) (t0 tf : Float) (z0 zf hz : ℤ) (r0 v0 : Triple) : Type 0 where
  pub accepted : verdict_on (plan_of s t0 tf) ≡ Ok tt
  pub always : Always (on_time s t0 tf z0 zf (nat_abs hz)) 0 0 (integrate (plan_of s t0 tf) r0 v0)
