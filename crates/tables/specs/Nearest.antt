-- Every coefficient is the f64 nearest to its decimal, nearer than any other: `a_nearest` and `b_nearest` in proofs/Nearest.antt are the proofs.
use Rattle.std.specs.Prelude.{ℕ, ◌<◌}
use Rattle.double.specs.Nearest.{IsNearestTo}
use Rattle.tables.specs.Tables.{a_decimal, b_decimal, a_at, b_at}

abbrev pub NearestOfA : Type 0
NearestOfA = (i k : ℕ) → i < 10 → k < 9 → IsNearestTo (a_decimal i k) (a_at i k)

abbrev pub NearestOfB : Type 0
NearestOfB = (i k : ℕ) → i < 10 → k < 9 → IsNearestTo (b_decimal i k) (b_at i k)
