-- What is written means the number that it was written of. The proofs are in proofs/Trips.antt.
use Rattle.std.specs.Prelude.{◌≡◌, ℕ, ◌+◌, ◌-◌, ◌*◌, ◌^◌, ◌<◌, true, List, [], ◌∷◌}
use Rattle.lines.specs.Digits.{hex_of, decimal_of}
use Rattle.lines.specs.Read.{are_digits, value_of}

-- hex is read again
pub record ReadAgain (x : ℕ) : Type 0 where
  pub digits : are_digits (hex_of x) ≡ true
  pub value : value_of (hex_of x) ≡ x

abbrev pub HexIsRead : Type 0
HexIsRead = (x : ℕ) → x < 2 ^ 64 → ReadAgain x

-- the number that decimal digits mean, behind those that mean `before`
unfoldable pub meant_from : ℕ → List ℕ → ℕ
meant_from before [] = before
meant_from before (b ∷ bytes) = meant_from (before * 10 + (b - 48)) bytes

abbrev pub DecimalMeans : Type 0
DecimalMeans = (n : ℕ) → n < 2 ^ 64 → meant_from 0 (decimal_of n) ≡ n
