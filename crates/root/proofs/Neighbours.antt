-- Any double other than q * 2 ^ k units is further from √n, where √n lies between the half-way points beside those. The double below 2 ^ 52 * 2 ^ k, which is
-- nearer than the others, lies on the far side of it from the root. Those with a minus sign are further, since √n is more than half of q * 2 ^ k.
use mathlib.Core.Path.{sym, subst}
use mathlib.Core.Logic.{inl, inr}
use Prim.Native.Nat.{ℕ, suc, ◌+◌, ◌-◌, ◌*◌, ◌^◌, ◌≤◌, ◌<◌}
use native.Mathlib.Nat.{mul-le-mul, mul-le-mul_right, le_trans, lt_of_lt_of_le, lt_of_le_of_lt}
use native.Mathlib.Omega.{arith}
use Rattle.double.proofs.Neighbours as doubles
use Rattle.root.specs.Nearest.{Nearer, NearerThanMinus}
use Rattle.root.specs.Parts.{Between}

-- p * 2 ^ j, with 53 digits in p at most, is any double
pub nearer : (n q k : ℕ) → Between n q k → (p j : ℕ) → p < 2 ^ 53 → Nearer n (q * 2 ^ k) (p * 2 ^ j)
nearer n q k B p j few = (
  λ l. let g = doubles.above q k B.low p j few l in lt_of_lt_of_le B.above (mul-le-mul g g),
  λ l. elim (doubles.below q k B.low p j few l) [
    | inl g ↦ lt_of_le_of_lt (mul-le-mul g g) B.below
    | inr e ↦ subst (λ (c : ℕ). (c * 2 ^ k + Y) * (c * 2 ^ k + Y) < 4 * n) (sym e.0) (least (2 ^ 52 * 2 ^ k) Y B.edge e.1)
  ],
)
  where
    Y : ℕ
    Y = p * 2 ^ j

    -- q is 2 ^ 52, and the root is 2 ^ 52 * 2 ^ k at least
    least : (A y : ℕ) → A * A ≤ n → y < A → (A + y) * (A + y) < 4 * n
    least A y h m = let g : suc (A + y) * suc (A + y) ≤ (A + A) * (A + A) = mul-le-mul (sum A y m) (sum A y m) in omega arith
      where
        sum : (A y : ℕ) → y < A → suc (A + y) ≤ A + A
        sum A y h = omega arith

pub nearer_than_minus : (n q k : ℕ) → Between n q k → (y : ℕ) → NearerThanMinus n (q * 2 ^ k) y
nearer_than_minus n q k B y = let g = le_trans (less (q * 2 ^ k) y) (mul-le-mul_right (2 ^ k) (more q B.low)) in lt_of_le_of_lt (mul-le-mul g g) B.below
  where
    less : (r y : ℕ) → r - y ≤ r
    less r y = omega arith

    more : (q : ℕ) → 2 ^ 52 ≤ q → q ≤ 2 * q - 1
    more q h = omega arith
