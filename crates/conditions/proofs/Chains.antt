-- Whole numbers only: from mean squares to sizes, each step within its part of the exact one. P and Q are the mean squares of the change and of the new
-- value, t the tolerance, W and L what Q times t, and times t again, come to; A and B are the roots of P and Q, D is B and 1e-30; all in units, u to 1.
use Prim.Native.Nat.{ℕ, suc, ◌+◌, ◌*◌, ◌≤◌, ◌<◌}
use native.Mathlib.Nat.{mul-le-mul_right, lt_of_mul-lt-mul_right}
use native.Mathlib.Omega.{arith}
use Rattle.root.proofs.Steps.{root_le}

pub sq_le : (x y : ℕ) → x * x ≤ y * y → x ≤ y
sq_le x y h = root_le (y * y) y x (next y) h
  where
    next : (y : ℕ) → y * y < (y + 1) * (y + 1)
    next y = omega arith

-- twice the change is L at most: then A / B is 4 / 5 of the tolerance at most
pub few : (P Q t W L A B u : ℕ) → 2 * P ≤ L → 63 * (L * u) ≤ 64 * (W * t) → 63 * (W * u) ≤ 64 * (Q * t) → 16 * (A * A) ≤ 17 * (P * u) → 16 * (Q * u) ≤ 17 * (B * B) → 5 * (A * u) ≤ 4 * (B * t)
few P Q t W L A B u h l w a b =
    sq_le (5 * (A * u)) (4 * (B * t))
    (let h3 : 2 * P * (u * u * u) ≤ L * (u * u * u) = mul-le-mul_right (u * u * u) h in
    let l2 : 63 * (L * u) * (u * u) ≤ 64 * (W * t) * (u * u) = mul-le-mul_right (u * u) l in
    let w2 : 63 * (W * u) * (t * u) ≤ 64 * (Q * t) * (t * u) = mul-le-mul_right (t * u) w in
    let a2 : 16 * (A * A) * (u * u) ≤ 17 * (P * u) * (u * u) = mul-le-mul_right (u * u) a in
    let b2 : 16 * (Q * u) * (t * t) ≤ 17 * (B * B) * (t * t) = mul-le-mul_right (t * t) b in
    omega arith)

-- so the quotient's units, g, are fewer than t
pub below : (A B D g t u : ℕ) → 5 * (A * u) ≤ 4 * (B * t) → 64 * B ≤ 65 * D → 63 * (g * D) ≤ 64 * (A * u) → 0 < D → 0 < t → g < t
below A B D g t u h d q z p =
    let d2 : 64 * B * t ≤ 65 * D * t = mul-le-mul_right t d in
    let r : 315 * g * D ≤ 260 * t * D = omega arith in
    let s : suc (260 * t) * D ≤ 315 * t * D = mul-le-mul_right D (more t p) in
    let v : 315 * g * D < 315 * t * D = omega arith in
    let f : 315 * g < 315 * t = lt_of_mul-lt-mul_right D v in
    omega arith
  where
    more : (t : ℕ) → 0 < t → suc (260 * t) ≤ 315 * t
    more t p = omega arith

-- twice L is the change at most: then A / B is 6 / 5 of the tolerance at least
pub many : (P Q t W L A B u : ℕ) → 2 * L ≤ P → 64 * (W * t) ≤ 65 * (L * u) → 64 * (Q * t) ≤ 65 * (W * u) → 16 * (P * u) ≤ 17 * (A * A) → 16 * (B * B) ≤ 17 * (Q * u) → 6 * (B * t) ≤ 5 * (A * u)
many P Q t W L A B u h l w a b =
    sq_le (6 * (B * t)) (5 * (A * u))
    (let h3 : 2 * L * (u * u * u) ≤ P * (u * u * u) = mul-le-mul_right (u * u * u) h in
    let l2 : 64 * (W * t) * (u * u) ≤ 65 * (L * u) * (u * u) = mul-le-mul_right (u * u) l in
    let w2 : 64 * (Q * t) * (t * u) ≤ 65 * (W * u) * (t * u) = mul-le-mul_right (t * u) w in
    let a2 : 16 * (P * u) * (u * u) ≤ 17 * (A * A) * (u * u) = mul-le-mul_right (u * u) a in
    let b2 : 16 * (B * B) * (t * t) ≤ 17 * (Q * u) * (t * t) = mul-le-mul_right (t * t) b in
    omega arith)

-- so the exact quotient is t at least; x is 1e-30
pub not_below : (A B D x t u : ℕ) → 6 * (B * t) ≤ 5 * (A * u) → 63 * D ≤ 64 * (B + x) → 1024 * x ≤ B → t * D ≤ A * u
not_below A B D x t u h d s =
    let e : 5 * D ≤ 6 * B = omega arith in
    let f : 5 * D * t ≤ 6 * B * t = mul-le-mul_right t e in
    omega arith
