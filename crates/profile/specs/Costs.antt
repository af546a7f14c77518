-- W-206: "start, end and step whole and within 01's bounds, and tells K, the sample room and both answer bounds". "Refusals: 13 where one of these three
-- is not whole or beyond the bounds, after 12 and before 1; 14 for max_steps below K, after 1."
use Rattle.std.specs.Prelude.{ℕ, ◌*◌, cond, not, nat_lt, unsigned_abs, Float, Result, Ok, Err}
use Rattle.triple.specs.Sampled.{sample_width}
use Rattle.refusals.specs.declared.Refusal.{Refusal}
use Rattle.refusals.specs.declared.Refusal.TheVariants.{StepNotFinite, Setting, BlankDate, NotWhole, TooFewSteps}
use Rattle.plan.specs.declared.Settings.{Settings}
use Rattle.plan.specs.Limits.{are_within_limits}
use Rattle.plan.specs.Plan.{plan_of, is_too_near}
use Rattle.plan.specs.Lawful.{is_dated}
use Rattle.counting.specs.Counting.{span_of, steps_for, least_before, most_before}
use Rattle.counting.specs.Rooms.{room_for}
use Rattle.profile.specs.declared.Cost.{Cost}
use Rattle.profile.specs.Wholes.{whole_of, are_whole}

-- K, the room in samples and in numbers, and both bounds before the run: 01's "Counting beforehand"
unfoldable pub cost_for : Settings → (span step : ℕ) → Cost
cost_for s span step =
    record {
      steps = steps_for span step;
      samples = room_for s span step;
      numbers = sample_width * room_for s span step;
      least = least_before s span step;
      most = most_before s span step;
    }

-- none is told with a refusal
unfoldable pub no_cost : Cost
no_cost = record { steps = 0; samples = 0; numbers = 0; least = 0; most = 0 }

-- abs(tf-t0) and abs(h)
unfoldable pub span_in : (t0 tf : Float) → ℕ
span_in t0 tf = span_of (whole_of t0) (whole_of tf)

unfoldable pub step_in : Settings → ℕ
step_in s = unsigned_abs (whole_of s.h)

-- 5, 12, 13, 1, 14: 5, 12 and 1 by the plain start's own tests
unfoldable pub forecast_of : Settings → (t0 tf : Float) → Result Cost Refusal
forecast_of s t0 tf =
    cond (not (are_within_limits s)) (Err Setting)
    (cond (not (is_dated (plan_of s t0 tf))) (Err BlankDate)
    (cond (not (are_whole t0 tf s.h)) (Err NotWhole)
    (cond (is_too_near (plan_of s t0 tf)) (Err StepNotFinite)
    (cond (nat_lt s.max_steps (steps_for (span_in t0 tf) (step_in s))) (Err TooFewSteps)
    (Ok (cost_for s (span_in t0 tf) (step_in s)))))))
