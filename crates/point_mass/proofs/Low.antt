-- Of two numbers one is below the other or at it; a NaN is neither.
use mathlib.Core.Path.{◌≡◌, refl}
use Prim.Native.Nat.{ℕ, ◌*◌, ◌+◌, ◌<◌, compare, Ordering}
use native.Mathlib.Omega.{arith}
use mathlib.Core.Bool.{Bool, true, false, not, ◌&&◌, ◌||◌}
use lib.Dec.{ltb, eqb}
use lib.Ieee.{nan, inf, fin, up, down, lt, eq, le, is_nan}
use lib.Ieee.Fits.{down_pos}
use borrow.Author.Tests.{lt-ltb, le-ltb, eq-eqb, ne_eqb}
use Rattle.double.proofs.Near.{Cmp, cmp}
use Rattle.point_mass.specs.Force.{is_too_low}
use Rattle.point_mass.specs.Low.{BelowOrNan}

-- of sizes, where the signs are alike
other_way : (a b : ℕ) → not (ltb a b || (eqb a b && true)) ≡ ltb b a || false
other_way a b = go (compare a b) (cmp a b)
  where
    go : (o : Ordering) → Cmp o a b → not (ltb a b || (eqb a b && true)) ≡ ltb b a || false
    go Ordering.lt h = rw (lt-ltb a b h, le-ltb b a (omega arith))
    go Ordering.eq h = rw (le-ltb a b (omega arith), eq-eqb a b h, le-ltb b a (omega arith))
    go Ordering.gt h = rw (le-ltb a b (omega arith), ne_eqb a b (λ e. omega arith), lt-ltb b a h)

-- what is negative is below
negative : (a b : ℕ) → 0 < a → not (eqb a b && eqb a 0) ≡ ltb 0 (b + a) || false
negative a b h = rw (ne_eqb a 0 (λ e. omega arith), lt-ltb 0 (b + a) (omega arith)) (both (eqb a b))
  where
    both : (p : Bool) → not (p && false) ≡ true
    both true = refl
    both false = refl

pub below_or_nan : BelowOrNan
unfolding is_too_low le lt eq is_nan
below_or_nan nan = refl
below_or_nan (inf true) = refl
below_or_nan (inf false) = refl
below_or_nan (fin true m e) = negative (1 * down e) (m * up e * 1) (positive e)
  where
    positive : (e : _) → 0 < 1 * down e
    positive e = omega (arith, down_pos e)
below_or_nan (fin false m e) = other_way (1 * down e) (m * up e * 1)
