-- Which bytes are an input, how a NaN is printed, and a few decimals: by computing.
use mathlib.Core.Path.{◌≡◌, refl}
use mathlib.Core.List.{[], ◌∷◌}
use lib.Ieee.{to_bits}
use Rattle.lines.specs.Digits.{glyph, digits, hex_of, float_hex, places, decimal_of}
use Rattle.lines.specs.Read.{within, digit_of, are_digits}
use Rattle.lines.specs.Nine.{begins_with_line, are_lines, ended, is_nine}
use Rattle.lines.specs.Examples.{WhichBytes, EveryNan}

pub which_bytes : WhichBytes
unfolding is_nine ended are_lines begins_with_line are_digits digit_of within
which_bytes =
    record {
      capitals = refl;
      last_newline_missing = refl;
      eight = refl;
      one_newline_more = refl;
      blank_before = refl;
      blank_for_a_digit = refl;
      carriage_return = refl;
      carriage_return_alone = refl;
    }

pub every_nan : EveryNan
unfolding float_hex hex_of digits glyph to_bits
every_nan = refl

zero_is : decimal_of 0 ≡ 48 ∷ []
unfolding decimal_of places digits glyph
zero_is = refl

year_is : decimal_of 525600 ≡ 53 ∷ 50 ∷ 53 ∷ 54 ∷ 48 ∷ 48 ∷ []
unfolding decimal_of places digits glyph
year_is = refl
