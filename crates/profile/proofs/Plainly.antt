-- Of whole numbers within the bounds refusal 1 is a test of whole numbers: span/h, rounded, is below 8 exactly where the span is below eight steps.
use Rattle.std.proofs.Common.{◌≡◌, ◌+◌, ◌*◌, ◌^◌, ◌≤◌, min, max, Bool, true, false, cond, ◌||◌, ℤ, pos, negsuc, ◌-ℤ◌, nat_abs, sym, ap, ◌∙◌, arith, ltb-false}
use lib.Ieee.{Float, binary64, neg, sub, mul, div, lt, le, of_int}
use Rattle.double.proofs.Booleans.{both}
use Rattle.triple.specs.Size.{absolute}
use Rattle.triple.specs.Doubles.{Double}
use Rattle.plan.specs.declared.Settings.{Settings}
use Rattle.plan.specs.Plan.{direction_of, plan_of, is_too_near}
use Rattle.whole.proofs.Exact.{neg_whole, one_whole}
use Rattle.whole.proofs.Along.{Along, sent_along, eight_along, apart_along}
use Rattle.whole.proofs.Integers.{plus, less, abs_int}
use Rattle.counting.specs.Counting.{span_of}
use Rattle.profile.specs.Wholes.{whole_of, is_whole_time, is_whole_step, are_whole}
use Rattle.profile.specs.Costs.{span_in, step_in}
use Rattle.profile.specs.Promise.{SameOne}
use Rattle.profile.proofs.Reading.{step_tests, step_holds}
use Rattle.profile.proofs.Apart.{span_holds}

-- what three whole numbers are
pub record Three (t0 tf h : Float) : Type 0 where
  pub start : is_whole_time t0 ≡ true
  pub end : is_whole_time tf ≡ true
  pub step : is_whole_step h ≡ true
  pub moves : 1 ≤ nat_abs (whole_of h)
  pub slow : nat_abs (whole_of h) ≤ 10 ^ 9

pub three : (t0 tf h : Float) → are_whole t0 tf h ≡ true → Three t0 tf h
unfolding are_whole
three t0 tf h e =
    let w = both _ _ e in
    let v = both _ _ w.0 in
    let t = step_tests h w.1 in
    record { start = v.0; end = v.1; step = w.1; moves = t.1; slow = t.2 }

apart_is : (d : ℤ) → max (plus d) (less d) ≡ nat_abs d + min (plus d) (less d)
apart_is (pos n) = omega arith
apart_is (negsuc n) = omega arith

-- the direction, whichever it is
way : (t0 tf : Float) → (d : Bool) × Along d (direction_of t0 tf) 1 0
unfolding direction_of
way t0 tf = go (le t0 tf)
  where
    go : (b : Bool) → (d : Bool) × Along d (cond b (of_int binary64 (pos 1)) (neg (of_int binary64 (pos 1)))) 1 0
    go true = (false, record { is = one_whole })
    go false = (true, record { is = neg_whole one_whole })

pub same_one : SameOne
unfolding is_too_near plan_of span_in span_of step_in
same_one s t0 tf f g k e =
    let w = three t0 tf s.h e in
    let a = w.moves in
    let b = w.slow in
    let size = abs_int (whole_of s.h) (step_holds s.h k w.step).holds in
    let pace = sent_along size (way t0 tf).1 (omega arith) in
    ap (λ (c : Bool). c || lt (absolute (div binary64 (sub binary64 tf t0) (mul binary64 (absolute s.h) (direction_of t0 tf)))) (of_int binary64 (pos 8))) (apart_along pace a)
    ∙ eight_along (nat_abs (whole_of tf -ℤ whole_of t0)) (span_holds t0 tf f g w.start w.end) (apart_is (whole_of tf -ℤ whole_of t0)) pace a (omega arith)

-- what is not too near is eight steps away
pub far : (s : Settings) (t0 tf : Float) → Double t0 → Double tf → Double s.h → are_whole t0 tf s.h ≡ true → is_too_near (plan_of s t0 tf) ≡ false → 8 * step_in s ≤ span_in t0 tf
far s t0 tf f g k e h = ltb-false (span_in t0 tf) (8 * step_in s) (sym (same_one s t0 tf f g k e) ∙ h)
