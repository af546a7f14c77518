-- How far `round` may be off: by half of what it drops. In units of 2 ^ -1074 the rounded number is `grid`; from 32 units on that is within one part
-- in 63 of the fraction.
use mathlib.Core.Path.{◌≡◌, refl, sym, ap, subst}
use Prim.Native.Nat.{ℕ, zero, suc, ◌+◌, ◌-◌, ◌*◌, ◌/◌, ◌%◌, ◌^◌, ◌≤◌, ◌<◌, compare, Ordering}
use native.Mathlib.Nat.{le_trans, le_of_eq, mul-one, mul-pos, mul-le-mul_right, div-add-mod', mod-lt, le-div_iff_mul-le, div-div-eq-div-mul}
use native.Mathlib.Omega.{arith}
use mathlib.Core.Bool.{not}
use lib.Dec.{T, is_le, compare_is_eq, eqb, leb→le, nleb→lt, eqb→eq, eqb_refl, lit≤}
use lib.Arith.{lt_of_le-ne}
use lib.Pow.{pow-add, pow_pos}
use lib.Ieee.{binary64, size, nearest}
use lib.Ieee.Digits.{size_reaches}
use lib.Ieee.Nearest.{closest, nearest-ge}
use lib.Ieee.Order.{drop}
use lib.Ieee.Scale.{grid}

-- ---- the nearest whole number
abbrev pub Cmp : Ordering → ℕ → ℕ → Type 0
Cmp Ordering.lt a b = a < b
Cmp Ordering.eq a b = a ≡ b
Cmp Ordering.gt a b = b < a

pub cmp : (a b : ℕ) → Cmp (compare a b) a b
cmp a b = go (compare a b) (leb→le a b) (nleb→lt a b) (eqb→eq a b) (λ (e : a ≡ b). subst (λ (x : ℕ). T (eqb a x)) e (eqb_refl a))
  where
    go : (o : Ordering) → (T (is_le o) → a ≤ b) → (T (not (is_le o)) → b < a) → (T (compare_is_eq o) → a ≡ b) → (a ≡ b → T (compare_is_eq o)) → Cmp o a b
    go Ordering.lt h k e n = lt_of_le-ne (h tt) n
    go Ordering.eq h k e n = e tt
    go Ordering.gt h k e n = k tt

-- it is off by a half at most
pub record Half (a b c : ℕ) : Type 0 where
  pub high : 2 * (c * b) ≤ 2 * a + b
  pub low : 2 * a ≤ 2 * (c * b) + b

pub half_off : (a b : ℕ) → 0 < b → Half a b (closest a b)
half_off a b B = go (a / b) (a % b) (div-add-mod' a b) (mod-lt a B) (compare (a % b * 2) b) (cmp (a % b * 2) b)
  where
    tie : (q r u : ℕ) → q * b + r ≡ a → r * 2 ≡ b → u < 2 → q % 2 ≡ u → Half a b (q + u)
    tie q r zero e c l m = record { high = omega arith; low = omega arith }
    tie q r (suc zero) e c l m = record { high = omega arith; low = omega arith }
    tie q r (suc (suc u)) e c l m = absurd (omega arith)

    go : (q r : ℕ) → q * b + r ≡ a → r < b → (o : Ordering) → Cmp o (r * 2) b → Half a b (nearest q o)
    go q r e l Ordering.lt c = record { high = omega arith; low = omega arith }
    go q r e l Ordering.eq c = tie q r (q % 2) e c (omega arith) refl
    go q r e l Ordering.gt c = record { high = omega arith; low = omega arith }

-- ---- the digits that are kept
-- where digits are dropped, all 53 are in use
full : (n c k : ℕ) → 0 < c → drop 53 n c ≡ suc k → 2 ^ 52 ≤ closest n (c * 2 ^ suc k)
full n c k C e =
    let u = c * 2 ^ suc k in
    let a : 2 ^ 52 * 2 ^ suc k ≤ n / c = le_trans (le_of_eq (sym (pow-add 2 52 (suc k)))) (size_reaches (n / c) (52 + suc k) (more (size (n / c)) k e)) in
    le_trans (subst (λ (x : ℕ). 2 ^ 52 ≤ x) (div-div-eq-div-mul n c (2 ^ suc k)) ((le-div_iff_mul-le (pow_pos (suc k))).1 a)) (nearest-ge (n / u) (compare (n % u * 2) u))
  where
    more : (z k : ℕ) → z - 53 ≡ suc k → 52 + suc k < z
    more z k e = omega arith

-- ---- in units
pub record Near (g c n : ℕ) : Type 0 where
  pub high : 63 * (g * c) ≤ 64 * n
  pub low : 64 * n ≤ 65 * (g * c)

-- with 32 or more of what is dropped left
from_half : (n c C K : ℕ) → 32 ≤ C → Half n (c * K) C → Near (C * K) c n
from_half n c C K h o =
    let g : 32 * (c * K) ≤ C * (c * K) = mul-le-mul_right (c * K) h in
    let a = o.high in
    let b = o.low in
    record { high = omega arith; low = omega arith }

pub near : (a c : ℕ) → 0 < c → 32 ≤ grid binary64 a c → Near (grid binary64 a c) c (a * 2 ^ 1074)
near a c C = go (drop 53 (a * 2 ^ 1074) c) refl
  where
    n : ℕ
    n = a * 2 ^ 1074

    off : (k : ℕ) → Half n (c * 2 ^ k) (closest n (c * 2 ^ k))
    off k = half_off n (c * 2 ^ k) (mul-pos C (pow_pos k))

    go : (k : ℕ) → drop 53 n c ≡ k → 32 ≤ closest n (c * 2 ^ k) * 2 ^ k → Near (closest n (c * 2 ^ k) * 2 ^ k) c n
    go zero e h = from_half n c (closest n (c * 2 ^ 0)) (2 ^ 0) (le_trans h (le_of_eq (mul-one (closest n (c * 2 ^ 0))))) (off 0)
    go (suc k) e h = from_half n c (closest n (c * 2 ^ suc k)) (2 ^ suc k) (le_trans (lit≤ tt) (full n c k C e)) (off (suc k))

-- a fraction of 32 units or more is rounded to 32 or more
pub large : (a c : ℕ) → 0 < c → 32 * c ≤ a * 2 ^ 1074 → 32 ≤ grid binary64 a c
large a c C h = go (drop 53 (a * 2 ^ 1074) c) refl
  where
    n : ℕ
    n = a * 2 ^ 1074

    go : (k : ℕ) → drop 53 n c ≡ k → 32 ≤ closest n (c * 2 ^ k) * 2 ^ k
    go zero e =
        let b = c * 2 ^ 0 in
        let l : 32 ≤ n / b = (le-div_iff_mul-le (mul-pos C (pow_pos 0))).1 (le_trans (le_of_eq (ap (λ (x : ℕ). 32 * x) (mul-one c))) h) in
        le_trans l (le_trans (nearest-ge (n / b) (compare (n % b * 2) b)) (le_of_eq (sym (mul-one (closest n b)))))
    go (suc k) e = times (closest n (c * 2 ^ suc k)) (2 ^ suc k) (full n c k C e) (pow_pos (suc k))
      where
        times : (x y : ℕ) → 2 ^ 52 ≤ x → 0 < y → 32 ≤ x * y
        times x y l p = let g : 2 ^ 52 * y ≤ x * y = mul-le-mul_right y l in omega arith
