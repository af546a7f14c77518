-- An f64 that is finite is a whole number of units of 2 ^ -1074, the smallest f64 above 0.
use Rattle.std.specs.Prelude.{ℕ, ◌*◌, ◌/◌, ◌^◌, true, false, ℤ, Float}
use Rattle.std.specs.Float.{nan, inf, fin}
use Rattle.std.specs.Float.Ieee.{up, down}

-- m * 2 ^ e in units
unfoldable pub in_units : ℕ → ℤ → ℕ
in_units m e = m * up e * 2 ^ 1074 / down e

-- the size of a finite number, in units: of an f64 nothing is cut off (`units_exact` in proofs/Own.antt)
abbrev pub units_in : Float → ℕ
units_in nan = 0
units_in (inf s) = 0
units_in (fin s m e) = in_units m e

-- finite, and without a minus sign
abbrev pub NotNegative : Float → Type 0
NotNegative nan = ⊥
NotNegative (inf s) = ⊥
NotNegative (fin true m e) = ⊥
NotNegative (fin false m e) = Unit
