-- The f64 nearest to a number.
use Rattle.std.specs.Prelude.{◌≢◌, ◌<◌, Bool, true, false, ℤ, pos, negsuc, nat_abs, Float}
use Rattle.std.specs.Float.{binary64}
use Rattle.std.specs.Float.Ieee.{round}
use Rattle.double.specs.Doubles.{Double}
use Rattle.double.specs.Fraction.{Fraction, ◌⊖◌, exact, Smaller}

-- a fraction, rounded by its sign and size
abbrev pub is_negative : ℤ → Bool
is_negative (pos n) = false
is_negative (negsuc n) = true

unfoldable pub nearest_double : Fraction → Float
nearest_double x = round binary64 (is_negative x.over) (nat_abs x.over) x.under

-- a number, and no NaN or infinity
abbrev pub IsNumber : Float → Type 0
IsNumber x = 0 < (exact x).under

-- x is the f64 nearest to d: |x - d| < |y - d| for every other, so that no tie is left
pub record IsNearestTo (d : Fraction) (x : Float) : Type 0 where
  pub double : Double x
  pub number : IsNumber x
  pub nearest : (y : Float) → Double y → IsNumber y → y ≢ x → Smaller (exact x ⊖ d) (exact y ⊖ d)
