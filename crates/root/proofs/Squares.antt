-- What callers use of a root without its digits: it is not negative, and its square is within one part in 16 of the number.
use mathlib.Core.Path.{◌≡◌, sym, ap, ◌∙◌, subst}
use Prim.Native.Nat.{ℕ, zero, suc, ◌+◌, ◌-◌, ◌*◌, ◌^◌, ◌≤◌, ◌<◌}
use native.Mathlib.Nat.{mul-le-mul, mul-le-mul_right, mul_assoc, le_trans, le_of_eq, zero-mul}
use native.Mathlib.Omega.{arith}
use mathlib.Core.Bool.{true, false, cond}
use lib.Dec.{ltb, lit≤}
use lib.Ieee.{Float, nan, inf, fin}
use Rattle.double.specs.Doubles.{Double}
use Rattle.double.specs.Units.{in_units, units_in, NotNegative}
use Rattle.double.proofs.Own.{counted}
use Rattle.double.proofs.Signs.{Plain, plain_round}
use Rattle.root.specs.Root.{isqrt, root_of, root_of_units}
use Rattle.root.specs.Parts.{Between}
use Rattle.root.proofs.Nearest.{rooted}

-- ---- not negative
pub plain_root : (x : Float) → Plain x → Plain (root_of x)
unfolding root_of root_of_units
plain_root nan h = tt
plain_root (inf true) h = absurd h
plain_root (inf false) h = tt
plain_root (fin true m e) h = absurd h
plain_root (fin false zero e) h = tt
plain_root (fin false (suc m) e) h = let n = in_units (suc m) e * 2 ^ 1074 in plain_round (2 * isqrt n + cond (ltb (isqrt n * isqrt n) n) 1 0) (2 ^ 1075)

-- ---- its square
-- a units are about the root of n
pub record About (a n : ℕ) : Type 0 where
  pub high : 16 * (a * a) ≤ 17 * n
  pub low : 16 * n ≤ 17 * (a * a)

-- half a digit of 53 is less than one part in 400
about : (n q k a : ℕ) → Between n q k → a ≡ q * 2 ^ k → About a n
about n q k a B e = from a (2 ^ k) ((2 * q - 1) * 2 ^ k) ((2 * q + 1) * 2 ^ k) wide below_is above_is B.below B.above
  where
    wide : 200 * 2 ^ k ≤ a
    wide = le_trans (mul-le-mul_right (2 ^ k) (many q B.low)) (le_of_eq (sym e))
      where
        many : (q : ℕ) → 2 ^ 52 ≤ q → 200 ≤ q
        many q h = omega arith

    below_is : (2 * q - 1) * 2 ^ k + 2 ^ k ≡ 2 * a
    below_is = one (2 * q - 1) (2 ^ k) ∙ ap (λ (z : ℕ). z * 2 ^ k) (twice q B.low) ∙ mul_assoc 2 q (2 ^ k) ∙ ap (λ (z : ℕ). 2 * z) (sym e)
      where
        one : (x y : ℕ) → x * y + y ≡ (x + 1) * y
        one x y = omega arith

        twice : (q : ℕ) → 2 ^ 52 ≤ q → 2 * q - 1 + 1 ≡ 2 * q
        twice q h = omega arith

    above_is : (2 * q + 1) * 2 ^ k ≡ 2 * a + 2 ^ k
    above_is = spread q (2 ^ k) ∙ ap (λ (z : ℕ). 2 * z + 2 ^ k) (sym e)
      where
        spread : (q K : ℕ) → (2 * q + 1) * K ≡ 2 * (q * K) + K
        spread q K = omega arith

    from : (a K c d : ℕ) → 200 * K ≤ a → c + K ≡ 2 * a → d ≡ 2 * a + K → c * c < 4 * n → 4 * n < d * d → About a n
    from a K c d w e f l h =
        let g : 399 * a ≤ 200 * c = omega arith in
        let i : 200 * d ≤ 401 * a = omega arith in
        let g2 : 399 * a * (399 * a) ≤ 200 * c * (200 * c) = mul-le-mul g g in
        let i2 : 200 * d * (200 * d) ≤ 401 * a * (401 * a) = mul-le-mul i i in
        record { high = omega arith; low = omega arith }

pub root_about : (x : Float) → Double x → NotNegative x → NotNegative (root_of x) × About (units_in (root_of x)) (units_in x * 2 ^ 1074)
unfolding root_of
root_about (fin false zero e) F N = (tt, subst (λ (u : ℕ). About u (u * 2 ^ 1074)) (sym ((counted false zero e F).is ∙ zero-mul _)) (record { high = lit≤ tt; low = lit≤ tt }))
root_about nan F N = elim N [ ]
root_about (inf _) F N = elim N [ ]
root_about (fin true _ e) F N = elim N [ ]
root_about (fin false (suc m) e) F N = let r = rooted m e F in (r.plus, about (in_units (suc m) e * 2 ^ 1074) r.q r.k (units_in (root_of (fin false (suc m) e))) r.between r.units)
