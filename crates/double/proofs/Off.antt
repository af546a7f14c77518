-- A product and a sum of floats without a minus sign, by their units: within one part in 63 of the exact one, where that is 32 units or more and far from the
-- largest f64.
use mathlib.Core.Path.{◌≡◌, sym, subst}
use Prim.Native.Nat.{ℕ, ◌+◌, ◌*◌, ◌^◌, ◌≤◌, ◌<◌}
use native.Mathlib.Nat.{le_trans, le_of_eq, lt_of_le_of_lt, lt_of_lt_of_le, le_of_mul-le-mul_right, lt_of_mul-lt-mul_right, mul_assoc, mul-le-mul_right, mul-lt-mul_of_pos_left, mul-lt-mul_of_pos_right, mul-pos, zero-lt-suc}
use native.Mathlib.Omega.{arith}
use mathlib.Core.Bool.{false}
use lib.Pow.{pow_pos}
use lib.Ieee.{Float, binary64, round, add, mul}
use lib.Ieee.Scale.{grid, round_val}
use Rattle.double.proofs.Near.{Near, near, large}
use Rattle.double.proofs.Units.{Units, mul_units, add_units}

-- ---- a fraction a / c
-- below 2 ^ 2097 units it rounds to less than 2 ^ 2098, which is no infinity
few : (g c n : ℕ) → 63 * (g * c) ≤ 64 * n → n < 2 ^ 2097 * c → g < 2 ^ 2098
few g c n h l =
    half g (2 ^ 2097)
    (lt_of_mul-lt-mul_right c (lt_of_le_of_lt (le_trans (le_of_eq (mul_assoc 63 g c)) h) (lt_of_lt_of_le (mul-lt-mul_of_pos_left l (zero-lt-suc 63)) (le_of_eq (sym (mul_assoc 64 (2 ^ 2097) c))))))
  where
    half : (g M : ℕ) → 63 * g < 64 * M → g < 2 * M
    half g M h = omega arith

pub rounded_near : (a c : ℕ) → 0 < c → 32 * c ≤ a * 2 ^ 1074 → a * 2 ^ 1074 < 2 ^ 2097 * c → Units (round binary64 false a c) (grid binary64 a c) × Near (grid binary64 a c) c (a * 2 ^ 1074)
rounded_near a c C l h = let n = near a c C (large a c C l) in (round_val binary64 a c (few (grid binary64 a c) c (a * 2 ^ 1074) n.high h), n)

-- ---- in units
pub record Roughly (x y : ℕ) : Type 0 where
  pub high : 63 * x ≤ 64 * y
  pub low : 64 * y ≤ 65 * x

pub record Comes (x : Float) (k y : ℕ) : Type 0 where
  pub units : ℕ
  pub are : Units x units
  pub within : Roughly (units * k) y

-- Near, with a factor u gone from both sides
without : (g k y u : ℕ) → 0 < u → Near g (k * u) (y * u) → Roughly (g * k) y
without g k y u U n = record {
  high = le_of_mul-le-mul_right (le_trans (le_of_eq (left 63 g k u)) (le_trans n.high (le_of_eq (right 64 y u)))) U;
  low = le_of_mul-le-mul_right (le_trans (le_of_eq (sym (right 64 y u))) (le_trans n.low (le_of_eq (sym (left 65 g k u))))) U;
}
  where
    left : (c g k u : ℕ) → c * (g * k) * u ≡ c * (g * (k * u))
    left c g k u = omega arith

    right : (c y u : ℕ) → c * (y * u) ≡ c * y * u
    right c y u = omega arith

pub product : (x y : Float) (a b : ℕ) → Units x a → Units y b → 32 * 2 ^ 1074 ≤ a * b → a * b < 2 ^ 2097 * 2 ^ 1074 → Comes (mul binary64 x y) (2 ^ 1074) (a * b)
product x y a b h k l m =
    let u = 2 ^ 1074 in
    let r = rounded_near (a * b) (u * u) (mul-pos (pow_pos 1074) (pow_pos 1074)) (le_trans (le_of_eq (sym (mul_assoc 32 u u))) (mul-le-mul_right u l)) (lt_of_lt_of_le (mul-lt-mul_of_pos_right m (pow_pos 1074)) (le_of_eq (mul_assoc (2 ^ 2097) u u))) in
    record {
      units = grid binary64 (a * b) (u * u);
      are = subst (λ (z : Float). Units z (grid binary64 (a * b) (u * u))) (sym (mul_units x y a b h k)) r.0;
      within = without (grid binary64 (a * b) (u * u)) u (a * b) u (pow_pos 1074) r.1;
    }

pub total : (x y : Float) (a b : ℕ) → Units x a → Units y b → 32 ≤ a + b → a + b < 2 ^ 2097 → Comes (add binary64 x y) 1 (a + b)
total x y a b h k l m =
    let u = 2 ^ 1074 in
    let r = rounded_near (a + b) u (pow_pos 1074) (mul-le-mul_right u l) (mul-lt-mul_of_pos_right m (pow_pos 1074)) in
    record {
      units = grid binary64 (a + b) u;
      are = subst (λ (z : Float). Units z (grid binary64 (a + b) u)) (sym (add_units x y a b h k)) r.0;
      within = without (grid binary64 (a + b) u) 1 (a + b) u (pow_pos 1074) (subst (λ (c : ℕ). Near (grid binary64 (a + b) u) c ((a + b) * u)) (one u) r.1);
    }
  where
    one : (u : ℕ) → u ≡ 1 * u
    one u = omega arith
