-- Hex digits read: small or capital.
use Rattle.std.specs.Prelude.{ℕ, ◌+◌, ◌-◌, ◌*◌, Bool, true, ◌&&◌, cond, List, [], ◌∷◌, leb, length, take, drop, Option, None, Some}
use Rattle.std.specs.Option.{is_some, unwrap_or}

unfoldable pub within : ℕ → ℕ → ℕ → Bool
within least most b = leb least b && leb b most

-- the value of a digit: 0 to 9, A to F, a to f; none for any other byte
unfoldable pub digit_of : ℕ → Option ℕ
digit_of b = cond (within 48 57 b) (Some (b - 48)) (cond (within 65 70 b) (Some (b - 55)) (cond (within 97 102 b) (Some (b - 87)) None))

unfoldable pub are_digits : List ℕ → Bool
are_digits [] = true
are_digits (b ∷ bytes) = is_some (digit_of b) && are_digits bytes

-- the number that digits mean, behind those that mean `before`; what is no digit counts as 16
unfoldable pub value_from : ℕ → List ℕ → ℕ
value_from before [] = before
value_from before (b ∷ bytes) = value_from (before * 16 + unwrap_or (digit_of b) 16) bytes

unfoldable pub value_of : List ℕ → ℕ
value_of bytes = value_from 0 bytes

-- the number, where all of them are digits
unfoldable pub number_read : List ℕ → Option ℕ
number_read bytes = cond (are_digits bytes) (Some (value_of bytes)) None

-- ---- the sixteen bytes from place `at` on
unfoldable pub sixteen_from : ℕ → List ℕ → List ℕ
sixteen_from at text = take 16 (drop at text)

-- all there, and all digits
unfoldable pub is_hex_at : ℕ → List ℕ → Bool
is_hex_at at text = leb (at + 16) (length text) && are_digits (sixteen_from at text)

unfoldable pub read_hex : List ℕ → ℕ → Option ℕ
read_hex text at = cond (is_hex_at at text) (Some (value_of (sixteen_from at text))) None
