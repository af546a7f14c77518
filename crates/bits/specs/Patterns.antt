-- The bit pattern of a float, where it has one of its own.
use Rattle.std.specs.Prelude.{cond, ℕ, Float, Option, None, Some}
use Rattle.std.specs.Float.{binary64}
use Rattle.std.specs.Float.Ieee.{is_nan, to_bits}

unfoldable pub pattern_of : Float → Option ℕ
pattern_of x = cond (is_nan x) None (Some (to_bits binary64 x))
