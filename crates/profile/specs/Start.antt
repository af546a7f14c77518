-- W-206: "In this profile a start takes the plain start's values [..] and tells K, the sample room and both answer bounds." The run and its question
-- are the plain start's; a refusal leaves what a refused plain start leaves.
use Rattle.std.specs.Prelude.{Float, Result, Ok, Err}
use Rattle.triple.specs.declared.Triple.{Triple}
use Rattle.refusals.specs.declared.Refusal.{Refusal}
use Rattle.plan.specs.declared.Settings.{Settings}
use Rattle.gauss_jackson.specs.declared.Answered.{Answered}
use Rattle.gauss_jackson.specs.declared.Outcome.TheVariants.{Refused}
use Rattle.gauss_jackson.specs.Answers.{ending, started}
use Rattle.profile.specs.declared.Cost.{Cost}
use Rattle.profile.specs.declared.WholeStart.{WholeStart}
use Rattle.profile.specs.Costs.{no_cost, forecast_of}

unfoldable pub with_cost : Answered → Cost → WholeStart
with_cost d c = record { run = d.run; told = record { outcome = d.outcome; cost = c } }

unfoldable pub whole_by : Result Cost Refusal → Answered → WholeStart
whole_by (Ok c) plain = with_cost plain c
whole_by (Err e) plain = with_cost (ending (Refused e)) no_cost

unfoldable pub started_whole : Settings → (t0 tf : Float) → (r0 v0 : Triple) → WholeStart
started_whole s t0 tf r0 v0 = whole_by (forecast_of s t0 tf) (started s t0 tf r0 v0)
