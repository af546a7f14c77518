-- 01 and W-202: what is said of a start. "Order: at start 5, 1", and "12 [..] after 5 and before 1".
use Rattle.std.specs.Prelude.{◌≡◌, ◌&&◌, cond, Float, ⊤, Result, Ok, Err}
use Rattle.triple.specs.Finite.{is_finite}
use Rattle.triple.specs.Doubles.{Double}
use Rattle.refusals.specs.declared.Refusal.{Refusal}
use Rattle.refusals.specs.declared.Refusal.TheVariants.{StepNotFinite, Setting, BlankDate}
use Rattle.plan.specs.declared.Settings.{Settings}
use Rattle.plan.specs.declared.Plan.{Plan}
use Rattle.plan.specs.Limits.{are_within_limits}
use Rattle.plan.specs.Plan.{plan_of, is_too_near}
use Rattle.plan.specs.Lawful.{is_lawful}

-- what is said of a start: nothing, or the refusal
abbrev pub Verdict : Type 0
Verdict = Result ⊤ Refusal

-- of a plan that is not lawful: 5 where a setting is over its limit, else 12
unfoldable pub fault_of : Plan → Refusal
fault_of p = cond (are_within_limits p.settings) BlankDate Setting

-- 5, 12, 1
unfoldable pub verdict_on : Plan → Verdict
verdict_on p = cond (is_lawful p) (cond (is_too_near p) (Err StepNotFinite) (Ok tt)) (Err (fault_of p))

-- the same by what a start is given: 5 for a setting, 12 for t0, tf or the step's setting, 1 last. h is a double, as every f64 is.
abbrev pub InOrder : Type 0
InOrder =
    (s : Settings) (t0 tf : Float) → Double s.h
    → verdict_on (plan_of s t0 tf)
    ≡ cond (are_within_limits s)
    (cond (is_finite t0 && is_finite tf && is_finite s.h) (cond (is_too_near (plan_of s t0 tf)) (Err StepNotFinite) (Ok tt)) (Err BlankDate))
    (Err Setting)
