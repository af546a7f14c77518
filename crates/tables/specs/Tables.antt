-- 01, "Tables": "90 values each, copied from the module", ten rows of nine columns, both counted from 0. 02, W-205: "Store rows 4 to 9 of each table and the nine
-- diagonal values of B; take the other rows from their mirror." (The module's rows -4 to 5 and columns -4 to 4 are 01's 0 to 9 and 0 to 8.)
use Rattle.std.specs.Prelude.{List, [], ◌∷◌, ℕ, ◌-◌, ◌&&◌, cond, ltb, eqb, pos, get_or, Float}
use Rattle.double.specs.Doubles.{nought}
use Rattle.double.specs.Fraction.{Fraction, whole, minus◌}
use Rattle.double.specs.Nearest.{nearest_double}
use Rattle.tables.specs.ARows.{a4, a5, a6, a7, a8, a9}
use Rattle.tables.specs.BRows.{on_diagonal, b4, b5, b6, b7, b8, b9}

-- row i and column k of rows that begin with row 4
abbrev pub stored_at : List (List Fraction) → ℕ → ℕ → Fraction
stored_at rows i k = get_or (get_or rows (i - 4) []) k (whole (pos 0))

-- the decimal in row i and column k, for i from 0 to 9 and k from 0 to 8
unfoldable pub a_decimal : ℕ → ℕ → Fraction
a_decimal i k =
    let rows = a4 ∷ a5 ∷ a6 ∷ a7 ∷ a8 ∷ a9 ∷ [] in
    cond (ltb i 4) (stored_at rows (8 - i) (8 - k)) (stored_at rows i k)

unfoldable pub b_decimal : ℕ → ℕ → Fraction
b_decimal i k =
    let rows = b4 ∷ b5 ∷ b6 ∷ b7 ∷ b8 ∷ b9 ∷ [] in
    cond (ltb i 4) (cond (eqb k i) (on_diagonal i) (minus (stored_at rows (8 - i) (8 - k)))) (stored_at rows i k)

-- the coefficient in row i and column k: the f64 nearest to its decimal; outside the table stands 0.0
unfoldable pub coefficient_at : (ℕ → ℕ → Fraction) → ℕ → ℕ → Float
coefficient_at table i k = cond (ltb i 10 && ltb k 9) (nearest_double (table i k)) nought

unfoldable pub a_at : ℕ → ℕ → Float
a_at i k = coefficient_at a_decimal i k

unfoldable pub b_at : ℕ → ℕ → Float
b_at i k = coefficient_at b_decimal i k

-- columns 0 to 8
abbrev pub nine : (ℕ → Float) → List Float
nine f = f 0 ∷ f 1 ∷ f 2 ∷ f 3 ∷ f 4 ∷ f 5 ∷ f 6 ∷ f 7 ∷ f 8 ∷ []

-- row i of a table
unfoldable pub row_of : (ℕ → ℕ → Float) → ℕ → List Float
row_of at i = nine (at i)

abbrev pub a_row : ℕ → List Float
a_row i = row_of a_at i

abbrev pub b_row : ℕ → List Float
b_row i = row_of b_at i

-- the ten rows, which are stored
abbrev pub ten_rows : (ℕ → ℕ → Float) → List (List Float)
ten_rows at =
    nine (at 0) ∷ nine (at 1) ∷ nine (at 2) ∷ nine (at 3) ∷ nine (at 4) ∷ nine (at 5) ∷ nine (at 6) ∷ nine (at 7) ∷ nine (at 8) ∷ nine (at 9) ∷ []

-- row i of ten, and zeros from row 10 on
unfoldable pub row_in : List (List Float) → ℕ → List Float
row_in rows i = get_or rows i (nine (λ k. nought))
