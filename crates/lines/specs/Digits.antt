-- Numbers as text: sixteen hex digits, and decimals without leading zeros.
use Rattle.std.specs.Prelude.{ℕ, zero, suc, ◌+◌, ◌/◌, ◌%◌, cond, List, [], ◌∷◌, ◌++◌, ltb, Float}
use Rattle.std.specs.Float.{binary64}
use Rattle.std.specs.Float.Ieee.{to_bits}

-- the byte of a digit below sixteen: 0 to 9, a to f
unfoldable pub glyph : ℕ → ℕ
glyph d = cond (ltb d 10) (48 + d) (87 + d)

-- the last k digits of n in a base, the most significant first
unfoldable pub digits : ℕ → ℕ → ℕ → List ℕ
digits base zero n = []
digits base (suc k) n = digits base k (n / base) ++ (glyph (n % base) ∷ [])

-- a u64 in hex
unfoldable pub hex_of : ℕ → List ℕ
hex_of x = digits 16 16 x

-- a float: the hex of its bits; `to_bits` has one pattern for every NaN
unfoldable pub float_hex : Float → List ℕ
float_hex x = hex_of (to_bits binary64 x)

-- how many decimal digits n has, k + 1 at most
unfoldable pub places : ℕ → ℕ → ℕ
places zero n = 1
places (suc k) n = cond (ltb n 10) 1 (suc (places k (n / 10)))

-- a u64 in decimal: twenty digits at most
unfoldable pub decimal_of : ℕ → List ℕ
decimal_of n = digits 10 (places 19 n) n
