-- The counts fit in 64 bits, and are 01's.
use Rattle.std.proofs.Common.{◌≡◌, ℕ, ◌+◌, ◌-◌, ◌*◌, ◌^◌, ◌<◌, ◌≤◌, Bool, cond, sym, ap, ◌∙◌, subst, mul-le-mul, lt_of_mul-lt-mul_right, le_of_mul-le-mul_right, arith, le-ltb, lt-ltb}
use Rattle.counting.specs.Counting.{steps_for, tail_for}
use Rattle.counting.proofs.Fates.{steps_reach}
use Rattle.profile.specs.Countable.{far_apart, Far}

-- what is about_steps of K
pub record AboutSteps (S H K : ℕ) : Type 0 where
  pub eight : 8 ≤ K
  pub small : K ≤ far_apart
  pub close : K * H < S + H
  pub sized : S + H ≤ far_apart + 10 ^ 9

pub about_steps : (S H K : ℕ) → Far S H K → AboutSteps S H K
about_steps S H K f =
    let a = f.0.0 in
    let b = f.0.1 in
    let c = f.0.2 in
    let d = f.1 in
    let r = steps_reach S H a in
    let x : S ≤ K * H = subst (λ (k : ℕ). S ≤ k * H) (sym f.2) r.reaches in
    let y : K * H < S + H = subst (λ (k : ℕ). k * H < S + H) (sym f.2) r.closely in
    let m : S * 1 ≤ S * H = mul-le-mul {n₁ = S} {m₁ = 1} {n₂ = S} {m₂ = H} (omega arith) a in
    let z : K * H < (S + 1) * H = omega arith in
    let u : K < S + 1 = lt_of_mul-lt-mul_right H z in
    record { eight = le_of_mul-le-mul_right {k = H} (omega arith) a; small = omega arith; close = y; sized = omega arith }

-- ---- T
pub tail_one : (S H k : ℕ) → k ≡ steps_for S H → S < k * H → 1 ≡ tail_for S H
unfolding tail_for
tail_one S H k e h = sym (ap (λ (b : Bool). cond b 1 0) (lt-ltb S (steps_for S H * H) (subst (λ (i : ℕ). S < i * H) e h)))

pub tail_none : (S H k : ℕ) → k ≡ steps_for S H → k * H ≤ S → 0 ≡ tail_for S H
unfolding tail_for
tail_none S H k e h = sym (ap (λ (b : Bool). cond b 1 0) (le-ltb S (steps_for S H * H) (subst (λ (i : ℕ). i * H ≤ S) e h)))

-- ---- P(1+C)
pub corrected_small : (K T C : ℕ) → K ≤ far_apart → C ≤ 100 → (K - 4 - T) * (1 + C) ≤ far_apart * 101
corrected_small K T C h k = mul-le-mul {n₁ = K - 4 - T} {m₁ = 1 + C} {n₂ = far_apart} {m₂ = 101} (omega arith) (omega arith)

-- ---- a test c that is b, and came out as d, picks what b picks
pub picked : (b c d : Bool) (x y : ℕ) → c ≡ b → c ≡ d → cond d x y ≡ cond b x y
picked b c d x y e f = ap (λ (z : Bool). cond z x y) (sym f ∙ e)
