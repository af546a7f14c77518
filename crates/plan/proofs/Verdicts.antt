-- The verdict on a start, split into its cases once for all: whoever needs to know why a start is refused or taken starts here.
use Rattle.std.proofs.Common.{Ok, Err}
use mathlib.Core.Path.{◌≡◌, refl}
use mathlib.Core.Bool.{Bool, true, false, cond}
use Rattle.refusals.specs.declared.Refusal.TheVariants.{StepNotFinite, Setting, BlankDate}
use Rattle.plan.specs.declared.Plan.{Plan}
use Rattle.plan.specs.Limits.{are_within_limits}
use Rattle.plan.specs.Plan.{is_too_near}
use Rattle.plan.specs.Lawful.{is_dated, is_lawful}
use Rattle.plan.specs.Verdict.{fault_of, verdict_on}

pub data Case (p : Plan) : Type 0 where
  not_lawful : is_lawful p ≡ false → verdict_on p ≡ Err (fault_of p) → Case p
  too_near : is_lawful p ≡ true → is_too_near p ≡ true → verdict_on p ≡ Err StepNotFinite → Case p
  fine : is_lawful p ≡ true → is_too_near p ≡ false → verdict_on p ≡ Ok tt → Case p

pub verdict_is : (p : Plan) (d t : Bool) → is_lawful p ≡ d → is_too_near p ≡ t → verdict_on p ≡ cond d (cond t (Err StepNotFinite) (Ok tt)) (Err (fault_of p))
unfolding verdict_on
verdict_is p d t e f = rw (e, f)

pub split : (p : Plan) → Case p
split p = go (is_lawful p) (is_too_near p) refl refl
  where
    go : (d t : Bool) → is_lawful p ≡ d → is_too_near p ≡ t → Case p
    go false t e f = not_lawful e (verdict_is p false t e f)
    go true true e f = too_near e f (verdict_is p true true e f)
    go true false e f = fine e f (verdict_is p true false e f)

-- test by test: 5, then 12, then 1
pub by_tests : (p : Plan) (l d t : Bool) → are_within_limits p.settings ≡ l → is_dated p ≡ d → is_too_near p ≡ t
    → verdict_on p ≡ cond l (cond d (cond t (Err StepNotFinite) (Ok tt)) (Err BlankDate)) (Err Setting)
unfolding verdict_on is_lawful fault_of
by_tests p true d t e f g = rw (e, f, g)
by_tests p false d t e f g = rw (e)
