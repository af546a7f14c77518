-- 01: "each Σ, FA and FB starts at zero and takes k upward".
use Rattle.std.specs.Prelude.{ℕ, zero, suc, List, get_or, drop, Float}
use Rattle.std.specs.Float.{nan}
use Rattle.triple.specs.declared.Triple.{Triple}
use Rattle.triple.specs.Arithmetic.{zeros, plus, times}
use Rattle.triple.specs.Nine.{at}
use Rattle.tables.specs.Tables.{a_at, b_at, row_of}

-- a[0]·row[0] + .. + a[n-1]·row[n-1]
unfoldable pub weighted : List Triple → List Float → ℕ → Triple
weighted a row zero = zeros
weighted a row (suc k) = plus (weighted a row k) (times (at a k) (get_or row k nan))

-- a[1]·row[0] + .. + a[n]·row[n-1]
unfoldable pub weighted_next : List Triple → List Float → ℕ → Triple
weighted_next a row n = weighted (drop 1 a) row n

-- ΣA and ΣB of row i, over nine accelerations
unfoldable pub sum_of : (ℕ → ℕ → Float) → ℕ → List Triple → Triple
sum_of table i a = weighted a (row_of table i) 9

abbrev pub sum_a : ℕ → List Triple → Triple
sum_a i a = sum_of a_at i a

abbrev pub sum_b : ℕ → List Triple → Triple
sum_b i a = sum_of b_at i a

-- FA and FB: "sums over k = 0 to 7 of a[k+1] times row 8"
unfoldable pub fixed_sum : (ℕ → ℕ → Float) → List Triple → Triple
fixed_sum table a = weighted_next a (row_of table 8) 8

abbrev pub fixed_a : List Triple → Triple
fixed_a a = fixed_sum a_at a

abbrev pub fixed_b : List Triple → Triple
fixed_b a = fixed_sum b_at a
