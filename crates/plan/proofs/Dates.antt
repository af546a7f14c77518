-- The step with its direction is finite exactly where its setting is: times 1 or -1 a double stays what it is.
use mathlib.Core.Path.{◌≡◌, refl, ap, ◌∙◌}
use Prim.Native.Nat.{ℕ, ◌*◌}
use native.Mathlib.Nat.{mul-one}
use native.Mathlib.Omega.{arith}
use mathlib.Core.Bool.{Bool, true, false, ◌&&◌, cond}
use lib.IntN.{pos}
use lib.Ieee.{Float, nan, inf, fin, binary64, up, down, unlike, round, neg, mul, le, of_int}
use Rattle.triple.specs.Size.{absolute}
use Rattle.triple.specs.Finite.{is_finite}
use Rattle.triple.specs.Doubles.{Double}
use Rattle.double.proofs.Own.{any_sign, own_round}
use Rattle.plan.specs.declared.Settings.{Settings}
use Rattle.plan.specs.Limits.{are_within_limits}
use Rattle.plan.specs.Plan.{direction_of, plan_of, is_too_near}
use Rattle.plan.specs.Lawful.{is_dated}
use Rattle.plan.specs.Verdict.{InOrder}
use Rattle.plan.proofs.Verdicts.{by_tests}

-- ---- times 1 or -1
times_one : (x : Float) (t : Bool) → Double x → is_finite (mul binary64 (absolute x) (fin t 1 (pos 0))) ≡ is_finite x
unfolding is_finite absolute mul
times_one nan t f = refl
times_one (inf s) t f = refl
times_one (fin s m e) t f =
    let top : m * up e * (1 * 1) ≡ m * up e = omega arith in
    ap is_finite
    (ap (λ (z : ℕ). round binary64 (unlike false t) z (down e * 1)) top
    ∙ ap (round binary64 (unlike false t) (m * up e)) (mul-one (down e))
    ∙ own_round (unlike false t) m e (any_sign s (unlike false t) m e f))

-- ---- the direction is 1 or -1
one_is : of_int binary64 (pos 1) ≡ fin false 1 (pos 0)
unfolding of_int round
one_is = refl

pub way_is : (t0 tf : Float) → (t : Bool) × (direction_of t0 tf ≡ fin t 1 (pos 0))
unfolding direction_of neg
way_is t0 tf = go (le t0 tf)
  where
    go : (b : Bool) → (t : Bool) × (cond b (of_int binary64 (pos 1)) (neg (of_int binary64 (pos 1))) ≡ fin t 1 (pos 0))
    go true = (false, one_is)
    go false = (true, ap neg one_is)

-- ---- a start's plan: its step is finite where the setting is, so three numbers decide
step_finite : (s : Settings) (t0 tf : Float) → Double s.h → is_finite (plan_of s t0 tf).h ≡ is_finite s.h
unfolding plan_of
step_finite s t0 tf f =
    let w = way_is t0 tf in
    ap (λ (d : Float). is_finite (mul binary64 (absolute s.h) d)) w.1 ∙ times_one s.h w.0 f

twice : (a b : Bool) → (a && b && b) ≡ (a && b)
twice true true = refl
twice true false = refl
twice false b = refl

dated_by : (s : Settings) (t0 tf : Float) → Double s.h → is_dated (plan_of s t0 tf) ≡ (is_finite t0 && is_finite tf && is_finite s.h)
unfolding is_dated plan_of
dated_by s t0 tf f =
    ap (λ (b : Bool). is_finite t0 && is_finite tf && is_finite s.h && b) (step_finite s t0 tf f) ∙ twice (is_finite t0 && is_finite tf) (is_finite s.h)

pub in_order : InOrder
unfolding plan_of
in_order s t0 tf f = by_tests (plan_of s t0 tf) (are_within_limits s) (is_finite t0 && is_finite tf && is_finite s.h) (is_too_near (plan_of s t0 tf)) refl (dated_by s t0 tf f) refl
