-- What a start is told, by its verdict.
use Rattle.std.proofs.Common.{Ok, Err}
use mathlib.Core.Path.{◌≡◌, ap}
use mathlib.Core.Bool.{true}
use lib.Ieee.{Float}
use Rattle.triple.specs.declared.Triple.{Triple}
use Rattle.refusals.specs.declared.Refusal.TheVariants.{StepNotFinite}
use Rattle.plan.specs.declared.Settings.{Settings}
use Rattle.plan.specs.Plan.{plan_of, is_too_near}
use Rattle.plan.specs.Lawful.{is_lawful}
use Rattle.plan.specs.Verdict.{Verdict, verdict_on}
use Rattle.plan.proofs.Verdicts.{verdict_is}
use Rattle.rules.specs.Rules.{integrate}
use Rattle.rules.specs.Walk.{refused, Stop, no_room, settle, begin_by, begin}

module _ (s : Settings) (t0 tf : Float) (r0 v0 : Triple) where
  pub begin_by_lem : (v : Verdict) → verdict_on (plan_of s t0 tf) ≡ v → begin s t0 tf r0 v0 ≡ begin_by v (plan_of s t0 tf) r0 v0
  unfolding begin
  begin_by_lem v e = ap (λ (u : Verdict). begin_by u (plan_of s t0 tf) r0 v0) e

  pub accepted_start : verdict_on (plan_of s t0 tf) ≡ Ok tt → begin s t0 tf r0 v0 ≡ settle (integrate (plan_of s t0 tf) r0 v0) 0 0 no_room
  unfolding plan_of begin_by
  accepted_start e = begin_by_lem (Ok tt) e

  pub near_start : is_lawful (plan_of s t0 tf) ≡ true → is_too_near (plan_of s t0 tf) ≡ true → (begin s t0 tf r0 v0).said ≡ refused 1
  unfolding plan_of begin_by
  near_start h k = ap (λ (x : Stop). x.said) (begin_by_lem (Err StepNotFinite) (verdict_is (plan_of s t0 tf) true true h k))
