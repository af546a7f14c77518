-- From 01's bounds to a span in a direction, and back from times on the span to whole numbers.
use mathlib.Core.Path.{◌≡◌, sym, ◌∙◌, subst}
use Prim.Native.Nat.{ℕ, ◌+◌, ◌^◌, ◌≤◌, ◌<◌}
use native.Mathlib.Omega.{arith}
use mathlib.Core.Bool.{Bool, true, false, cond}
use lib.IntN.{ℤ, pos, negsuc, neg_ℤ, nat_abs, ◌+ℤ◌, ◌-ℤ◌}
use lib.Signed.{le_z}
use lib.Ieee.{Float, binary64, neg, le, of_int}
use borrow.Author.Tests.{leb-true, leb-false}
use Rattle.triple.specs.Size.{absolute}
use Rattle.triple.specs.Finite.{is_finite}
use Rattle.whole.specs.Whole.{IsWhole}
use Rattle.whole.proofs.Exact.{Is, move, neg_whole, one_whole}
use Rattle.whole.proofs.Integers.{plus, less, Holds, within, wider, between, sum_parts, neg_parts, le_parts, le_int, abs_int, read, write}
use Rattle.whole.proofs.Along.{Along, sent_along}
use Rattle.plan.specs.declared.Settings.{Settings}
use Rattle.plan.specs.Plan.{direction_of, plan_of}
use Rattle.plan.specs.Lawful.{is_dated, is_lawful}
use Rattle.counting.specs.Counting.{span_of, Bounds}
use Rattle.counting.proofs.Spans.{Span, whole_finite}

-- the whole number A - B
pub whole_at : {x : Float} (A B : ℕ) (z : ℤ) → Is x A B → A + less z ≡ plus z + B → A ≤ B + 2 ^ 53 → B ≤ A + 2 ^ 53 → IsWhole x z
whole_at A B z X e h k = write z (between (2 ^ 53) A B z e h k) (move (plus z) (less z) X e)

-- ---- the span, counted from the nearer end
up_span : (z0 zf : ℤ) → le_z z0 zf ≡ true → plus z0 + less zf + span_of z0 zf ≡ plus zf + less z0
unfolding span_of
up_span z0 zf h =
    let l : plus z0 + less zf ≤ plus zf + less z0 = leb-true (plus z0 + less zf) (plus zf + less z0) (le_parts z0 zf ∙ h) in
    let n = neg_parts z0 in
    let a = n.0 in
    let b = n.1 in
    let e = sum_parts zf (neg_ℤ z0) in
    go (zf -ℤ z0) (omega arith) l
  where
    go : (z : ℤ) → plus zf + less z0 + less z ≡ plus z + (less zf + plus z0) → plus z0 + less zf ≤ plus zf + less z0 → plus z0 + less zf + nat_abs z ≡ plus zf + less z0
    go (pos n) e l = omega arith
    go (negsuc n) e l = omega arith

down_span : (z0 zf : ℤ) → le_z z0 zf ≡ false → plus zf + less z0 + span_of z0 zf ≡ plus z0 + less zf
unfolding span_of
down_span z0 zf h =
    let l : plus zf + less z0 < plus z0 + less zf = leb-false (plus z0 + less zf) (plus zf + less z0) (le_parts z0 zf ∙ h) in
    let n = neg_parts z0 in
    let a = n.0 in
    let b = n.1 in
    let e = sum_parts zf (neg_ℤ z0) in
    go (zf -ℤ z0) (omega arith) l
  where
    go : (z : ℤ) → plus zf + less z0 + less z ≡ plus z + (less zf + plus z0) → plus zf + less z0 < plus z0 + less zf → plus zf + less z0 + nat_abs z ≡ plus z0 + less zf
    go (pos n) e l = omega arith
    go (negsuc n) e l = omega arith

module _ {s : Settings} {t0 tf : Float} {z0 zf hz : ℤ} (b : Bounds s t0 tf z0 zf hz) where
  start_holds : Holds t0 z0
  start_holds = read z0 (wider _ (2 ^ 53) z0 (omega arith) (within _ z0 b.start_size)) b.start_whole

  end_holds : Holds tf zf
  end_holds = read zf (wider _ (2 ^ 53) zf (omega arith) (within _ zf b.end_size)) b.end_whole

  setting_holds : Holds s.h hz
  setting_holds = read hz (wider _ (2 ^ 53) hz (omega arith) (within _ hz b.step_size)) b.step_whole

  step_holds : Is (absolute s.h) (nat_abs hz) 0
  step_holds = abs_int hz setting_holds

  -- whole numbers are finite
  pub lawful : is_finite (plan_of s t0 tf).h ≡ true → is_lawful (plan_of s t0 tf) ≡ true
  unfolding is_lawful is_dated plan_of
  lawful f = rw (b.limits, whole_finite start_holds, whole_finite end_holds, whole_finite setting_holds, f)

  ordered : le t0 tf ≡ le_z z0 zf
  ordered = le_int z0 zf start_holds end_holds

  way_up : le_z z0 zf ≡ true → Along false (direction_of t0 tf) 1 0
  unfolding direction_of
  way_up h = record { is = subst (λ (c : Bool). Is (cond c (of_int binary64 (pos 1)) (neg (of_int binary64 (pos 1)))) 1 0) (sym (ordered ∙ h)) one_whole }

  way_down : le_z z0 zf ≡ false → Along true (direction_of t0 tf) 1 0
  unfolding direction_of
  way_down h = record { is = subst (λ (c : Bool). Is (cond c (of_int binary64 (pos 1)) (neg (of_int binary64 (pos 1)))) 0 1) (sym (ordered ∙ h)) (neg_whole one_whole) }

  pub up : le_z z0 zf ≡ true → Span false (plan_of s t0 tf) (plus z0) (less z0) (span_of z0 zf) (nat_abs hz)
  unfolding plan_of
  up h =
      let e = up_span z0 zf h in
      let u = within _ z0 b.start_size in
      let v = within _ zf b.end_size in
      let u1 = u.1 in
      let v0 = v.0 in
      let k = b.step_size in
      record {
        start = record { is = start_holds };
        goal = record { is = move (plus z0 + span_of z0 zf) (less z0) end_holds (omega arith) };
        pace = sent_along step_holds (way_up h) (omega arith);
        way = way_up h;
        low = omega arith;
        high = omega arith;
        moves = b.moves;
        slow = k;
        far = b.far;
      }

  pub down : le_z z0 zf ≡ false → Span true (plan_of s t0 tf) (less z0) (plus z0) (span_of z0 zf) (nat_abs hz)
  unfolding plan_of
  down h =
      let e = down_span z0 zf h in
      let u = within _ z0 b.start_size in
      let v = within _ zf b.end_size in
      let u0 = u.0 in
      let v1 = v.1 in
      let k = b.step_size in
      record {
        start = record { is = start_holds };
        goal = record { is = move (plus z0) (less z0 + span_of z0 zf) end_holds (omega arith) };
        pace = sent_along step_holds (way_down h) (omega arith);
        way = way_down h;
        low = omega arith;
        high = omega arith;
        moves = b.moves;
        slow = k;
        far = b.far;
      }

  -- ---- a time x steps on, forward and backward
  pub up_time : {x : Float} (m : ℕ) → le_z z0 zf ≡ true → m ≤ span_of z0 zf → Along false x (plus z0 + m) (less z0) → IsWhole x (z0 +ℤ pos m)
  up_time m h l X =
      let w = up h in
      let p = w.low in
      let q = w.high in
      let e = sum_parts z0 (pos m) in
      whole_at (plus z0 + m) (less z0) (z0 +ℤ pos m) X.is (omega arith) (omega arith) (omega arith)

  pub down_time : {x : Float} (m : ℕ) → le_z z0 zf ≡ false → m ≤ span_of z0 zf → Along true x (less z0 + m) (plus z0) → IsWhole x (z0 -ℤ pos m)
  down_time m h l X =
      let w = down h in
      let p = w.low in
      let q = w.high in
      let n = neg_parts (pos m) in
      let n0 = n.0 in
      let n1 = n.1 in
      let e = sum_parts z0 (neg_ℤ (pos m)) in
      whole_at (plus z0) (less z0 + m) (z0 -ℤ pos m) X.is (omega arith) (omega arith) (omega arith)

  -- ---- the end
  pub up_end : {x : Float} → le_z z0 zf ≡ true → Along false x (plus z0 + span_of z0 zf) (less z0) → IsWhole x zf
  up_end h X =
      let w = up h in
      let p = w.low in
      let q = w.high in
      let e = up_span z0 zf h in
      whole_at (plus z0 + span_of z0 zf) (less z0) zf X.is (omega arith) (omega arith) (omega arith)

  pub down_end : {x : Float} → le_z z0 zf ≡ false → Along true x (less z0 + span_of z0 zf) (plus z0) → IsWhole x zf
  down_end h X =
      let w = down h in
      let p = w.low in
      let q = w.high in
      let e = down_span z0 zf h in
      whole_at (plus z0) (less z0 + span_of z0 zf) zf X.is (omega arith) (omega arith) (omega arith)
