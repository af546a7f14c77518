-- The root of an f64, worked out in whole numbers, and what is proved of it.
use Rattle.std.specs.Prelude.{◌≡◌, ℕ, zero, suc, ◌+◌, ◌*◌, ◌/◌, ◌^◌, true, false, cond, leb, ltb, Float}
use Rattle.std.specs.Float.{nan, inf, fin, binary64}
use Rattle.std.specs.Float.Ieee.{size, round}
use Rattle.double.specs.Doubles.{Double}
use Rattle.double.specs.Units.{in_units}
use Rattle.root.specs.Nearest.{IsRoot}

-- the whole part of √n, for an n below 4 ^ k: that of √(n / 4) twice, or one more
unfoldable pub root_digits : ℕ → ℕ → ℕ
root_digits zero n = 0
root_digits (suc k) n = let s = 2 * root_digits k (n / 4) in cond (leb (suc s * suc s) n) (suc s) s

-- the whole part of √n
unfoldable pub isqrt : ℕ → ℕ
unfolding root_digits
isqrt n = root_digits (size n) n

-- √n units, rounded. What is rounded is the whole part of the root, and a half more where that is not all of it: a rounding turns on nothing finer.
unfoldable pub root_of_units : ℕ → Float
unfolding isqrt round
root_of_units n = let s = isqrt n in round binary64 false (2 * s + cond (ltb (s * s) n) 1 0) (2 ^ 1075)

unfoldable pub root_of : Float → Float
unfolding root_of_units in_units
root_of nan = nan
root_of (inf s) = cond s nan (inf false)
root_of (fin s zero e) = fin s zero e
root_of (fin true (suc m) e) = nan
root_of (fin false (suc m) e) = root_of_units (in_units (suc m) e * 2 ^ 1074)

-- it is the root of every f64, and nothing else is
abbrev pub RootIs : Type 0
RootIs = (x : Float) → Double x → IsRoot x (root_of x)

abbrev pub RootOnly : Type 0
RootOnly = (x r : Float) → Double x → IsRoot x r → r ≡ root_of x
