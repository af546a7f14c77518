-- `isqrt n` is the whole part of √n.
use mathlib.Core.Path.{sym, subst}
use Prim.Native.Nat.{ℕ, zero, suc, ◌+◌, ◌*◌, ◌/◌, ◌^◌, ◌≤◌, ◌<◌}
use native.Mathlib.Nat.{mul-le-mul_left, lt_of_lt_of_le, le_trans, mul-one, le_of_eq, pow-succ'}
use native.Mathlib.Omega.{arith}
use mathlib.Core.Bool.{Bool, true, false, not, cond}
use lib.Dec.{T, leb, leb→le, nleb→lt}
use lib.Pow.{pow_pos}
use lib.Ieee.{size}
use lib.Ieee.Digits.{size-lt}
use Rattle.root.specs.Root.{root_digits, isqrt}
use Rattle.root.specs.Parts.{Floor}

digits_floor : (k n : ℕ) → n < 2 ^ k * 2 ^ k → Floor n (root_digits k n)
unfolding root_digits
digits_floor zero n h = record { low = omega arith; high = omega arith }
digits_floor (suc k) n h = go (root_digits k (n / 4)) (digits_floor k (n / 4) (quarter n (2 ^ k) (subst (λ (x : ℕ). n < x * x) (pow-succ' 2 k) h)))
  where
    quarter : (n P : ℕ) → n < 2 * P * (2 * P) → n / 4 < P * P
    quarter n P h = omega arith

    pick : (s : ℕ) (b : Bool) → s * s ≤ n → n < (s + 2) * (s + 2) → (T b → suc s * suc s ≤ n) → (T (not b) → n < suc s * suc s) → Floor n (cond b (suc s) s)
    pick s true a c f g = let x = f tt in record { low = x; high = omega arith }
    pick s false a c f g = let x = g tt in record { low = a; high = omega arith }

    go : (r : ℕ) → Floor (n / 4) r → Floor n (cond (leb (suc (2 * r) * suc (2 * r)) n) (suc (2 * r)) (2 * r))
    go r f =
        let a = f.low in
        let c = f.high in
        pick (2 * r) (leb (suc (2 * r) * suc (2 * r)) n) (omega arith) (omega arith) (leb→le (suc (2 * r) * suc (2 * r)) n) (nleb→lt (suc (2 * r) * suc (2 * r)) n)

pub isqrt_floor : (n : ℕ) → Floor n (isqrt n)
unfolding isqrt
isqrt_floor n = digits_floor (size n) n (lt_of_lt_of_le (size-lt n) (le_trans (le_of_eq (sym (mul-one (2 ^ size n)))) (mul-le-mul_left (2 ^ size n) (pow_pos (size n)))))
