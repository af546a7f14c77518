-- W-206: "What it accepts, answered with room for the samples, always finishes; a plain start with the same values is accepted too, with the same
-- questions." The proof is `keeps` in proofs/Promise.antt. And where a start is refused, how that stands to the plain start: `RefusesAlike`, proved there as
-- `refuses_alike`; and `SameOne`, by `same_one` in proofs/Plainly.antt.
use Rattle.std.specs.Prelude.{◌≡◌, ℕ, ◌*◌, ◌<◌, ◌≤◌, true, false, cond, List, ℤ, nat_lt, Float, Ok, Err, Result}
use Rattle.triple.specs.declared.Triple.{Triple}
use Rattle.triple.specs.Doubles.{Double}
use Rattle.triple.specs.Sampled.{sample_width}
use Rattle.refusals.specs.declared.Refusal.{Refusal}
use Rattle.refusals.specs.declared.Refusal.TheVariants.{NotWhole, TooFewSteps}
use Rattle.plan.specs.declared.Settings.{Settings}
use Rattle.plan.specs.Plan.{plan_of, is_too_near}
use Rattle.plan.specs.Lawful.{is_lawful}
use Rattle.plan.specs.Verdict.{Verdict, fault_of, verdict_on}
use Rattle.gauss_jackson.specs.Answers.{started}
use Rattle.rules.specs.Walk.{question, told, Call, begin}
use Rattle.rules.specs.Follows.{played}
use Rattle.whole.specs.Whole.{IsWhole}
use Rattle.counting.specs.Paths.{Claims}
use Rattle.counting.specs.Counting.{steps_for, when_for, Bounds}
use Rattle.counting.specs.Runs.{Going, answers_in, Finishes, FinishesOnTime}
use Rattle.counting.specs.Rooms.{Roomy, Ample}
use Rattle.profile.specs.declared.Cost.{Cost}
use Rattle.profile.specs.Wholes.{whole_of, are_whole}
use Rattle.profile.specs.Costs.{span_in, step_in, cost_for, forecast_of}
use Rattle.profile.specs.Start.{with_cost, started_whole}

-- ---- accepted: what was told is kept
-- the finished state, after e answers and n samples: at the end, in the steps told, with the samples told, within the bounds told
pub record EndsAsTold (c : Cost) (zf : ℤ) (e n : ℕ) (t : Float) (steps : ℕ) : Type 0 where
  pub ends_at : IsWhole t zf
  pub in_steps : steps ≡ c.steps
  pub samples : n ≡ c.samples
  pub at_least : c.least ≤ e
  pub at_most : e ≤ c.most

-- sample n stands exactly n steps from the start, the last at the end, and fits in the room told; no path runs out of steps
unfoldable pub as_told : Cost → (z0 zf : ℤ) → (step : ℕ) → Claims
as_told c z0 zf step =
    record {
      sample = λ (n : ℕ) (t : Float). (n < c.samples) × IsWhole t (when_for z0 zf step n);
      finish = λ (e n : ℕ) (t : Float) (steps startups : ℕ). EndsAsTold c zf e n t steps;
      excess = λ (e n : ℕ). ⊥;
    }

-- of a start with these values, whose cost is told as c
pub record KeepsItsWord (s : Settings) (t0 tf : Float) (r0 v0 : Triple) (c : Cost) : Type 0 where
  -- the plain start's own run and question, and the cost; the question is number 0, at the values given
  pub plainly : started_whole s t0 tf r0 v0 ≡ with_cost (started s t0 tf r0 v0) c
  pub accepted : verdict_on (plan_of s t0 tf) ≡ Ok tt
  pub asks : told (started_whole s t0 tf r0 v0).told.outcome ≡ question 0 (record { t = t0; r = r0; v = v0 })
  -- the room in numbers is that in samples, and with room for so many from sample 0 on every call has room for the samples due at it
  pub room : c.numbers ≡ sample_width * c.samples
  pub enough : (cs : List Call) → Ample c.samples cs → Roomy (begin s t0 tf r0 v0).line cs
  -- every list of calls with room, refused ones among them: nothing but questions, 8 to a wrong number, the finished state as told, and 7 after it
  pub goes : (cs : List Call) → Roomy (begin s t0 tf r0 v0).line cs
      → Going (as_told c (whole_of t0) (whole_of tf) (step_in s)) c.most 0 0 0 cs (played (started_whole s t0 tf r0 v0).run cs)
  -- whoever answers every question comes to the end, with `most` answers at the latest
  pub finishes : (cs : List Call) → Roomy (begin s t0 tf r0 v0).line cs → c.most ≤ answers_in 0 cs (played (started_whole s t0 tf r0 v0).run cs)
      → Finishes (played (started_whole s t0 tf r0 v0).run cs)
  -- and so all of demand 3, by the startup passes made too, since the values are within its bounds
  pub in_time : (cs : List Call) → Roomy (begin s t0 tf r0 v0).line cs → FinishesOnTime s t0 tf (whole_of t0) (whole_of tf) (whole_of s.h) r0 v0 cs
  pub bounds : Bounds s t0 tf (whole_of t0) (whole_of tf) (whole_of s.h)

-- for all f64
abbrev pub Promise : Type 0
Promise =
    (s : Settings) (t0 tf : Float) (r0 v0 : Triple) (c : Cost) → Double t0 → Double tf → Double s.h → forecast_of s t0 tf ≡ Ok c
    → KeepsItsWord s t0 tf r0 v0 c

-- ---- refused
-- what the plain start refuses is refused by the same number; what it takes is as x says
unfoldable pub or_else : Verdict → Result Cost Refusal → Result Cost Refusal
or_else (Ok u) x = x
or_else (Err e) x = Err e

pub record RefusesAlike (s : Settings) (t0 tf : Float) : Type 0 where
  -- of whole numbers within the bounds: 5, 12 and 1 as the plain start, and 14
  pub whole : are_whole t0 tf s.h ≡ true
      → forecast_of s t0 tf
      ≡ or_else (verdict_on (plan_of s t0 tf)) (cond (nat_lt s.max_steps (steps_for (span_in t0 tf) (step_in s))) (Err TooFewSteps) (Ok (cost_for s (span_in t0 tf) (step_in s))))
  -- of others: 5 and 12 as the plain start, and 13
  pub others : are_whole t0 tf s.h ≡ false → forecast_of s t0 tf ≡ cond (is_lawful (plan_of s t0 tf)) (Err NotWhole) (Err (fault_of (plan_of s t0 tf)))

-- refusal 1's float test is here the test of whole numbers: the span is below eight steps; for all f64
abbrev pub SameOne : Type 0
SameOne =
    (s : Settings) (t0 tf : Float) → Double t0 → Double tf → Double s.h → are_whole t0 tf s.h ≡ true
    → is_too_near (plan_of s t0 tf) ≡ nat_lt (span_in t0 tf) (8 * step_in s)
