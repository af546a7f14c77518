-- The input: nine lines, each of sixteen hex digits and a newline. Only the ninth newline may be missing.
use Rattle.std.specs.Prelude.{ℕ, zero, suc, Bool, ◌&&◌, cond, List, [], ◌∷◌, ◌++◌, leb, eqb, length, get_or, take, drop, Option, None, Some}
use Rattle.lines.specs.Read.{are_digits, value_of}

-- a text that begins with a line: seventeen bytes are there, sixteen digits and a newline
unfoldable pub begins_with_line : List ℕ → Bool
begins_with_line text = leb 17 (length text) && (are_digits (take 16 text) && eqb (get_or text 16 10) 10)

-- n lines and nothing else
unfoldable pub are_lines : ℕ → List ℕ → Bool
are_lines zero text = eqb (length text) 0
are_lines (suc n) text = begins_with_line text && are_lines n (drop 17 text)

-- the numbers of n lines
unfoldable pub patterns_of : ℕ → List ℕ → List ℕ
patterns_of zero text = []
patterns_of (suc n) text = value_of (take 16 text) ∷ patterns_of n (drop 17 text)

-- a text that is one byte short of nine lines is read as if a newline ended it
unfoldable pub ended : List ℕ → List ℕ
ended text = cond (eqb (length text) 152) (text ++ (10 ∷ [])) text

unfoldable pub is_nine : List ℕ → Bool
is_nine text = are_lines 9 (ended text)

-- the nine numbers of a text that is an input
unfoldable pub read_nine : List ℕ → Option (List ℕ)
read_nine text = cond (is_nine text) (Some (patterns_of 9 (ended text))) None
