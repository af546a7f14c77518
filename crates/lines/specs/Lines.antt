-- The lines that a program prints: a sample's, and a refusal's.
use Rattle.std.specs.Prelude.{ℕ, ◌+◌, Bool, ◌&&◌, cond, List, [], ◌∷◌, ◌++◌, leb, Float, length, take, drop}
use Rattle.lines.specs.Put.{over}
use Rattle.lines.specs.Digits.{float_hex, decimal_of}

-- floats in hex, a blank before each
unfoldable pub floats_of : List Float → List ℕ
floats_of [] = []
floats_of (x ∷ xs) = (32 ∷ float_hex x) ++ floats_of xs

-- a sample: its number, its floats, a newline
unfoldable pub sample_line : ℕ → List Float → List ℕ
sample_line n xs = decimal_of n ++ (floats_of xs ++ (10 ∷ []))

-- a refusal: its number, a newline
unfoldable pub refusal_line : ℕ → List ℕ
refusal_line n = decimal_of n ++ (10 ∷ [])

-- ---- the sample of the ten numbers from place `first` on
unfoldable pub ten_from : ℕ → List Float → List Float
ten_from first numbers = take 10 (drop first numbers)

-- the ten numbers are there, and room for the longest line: 20 digits, ten times 17 bytes, a newline. The length of this one is not asked for: it
-- would be found only by spelling it
unfoldable pub line_fits : List Float → ℕ → ℕ → List ℕ → Bool
line_fits numbers first at out = leb (first + 10) (length numbers) && leb (at + 191) (length out)

-- the bytes with the line put from `at` on
unfoldable pub put_line : ℕ → List Float → ℕ → ℕ → List ℕ → List ℕ
put_line n numbers first at out = cond (line_fits numbers first at out) (over at (sample_line n (ten_from first numbers)) out) out

-- and the place after it
unfoldable pub after_line : ℕ → List Float → ℕ → ℕ → List ℕ → ℕ
after_line n numbers first at out = cond (line_fits numbers first at out) (at + length (sample_line n (ten_from first numbers))) at
