-- Outside a table, below its rows and beside its columns, stands 0.0. Here with the proofs, since each table's `impl` hands its own over.
use Rattle.std.specs.Prelude.{◌≡◌, ℕ, ◌≤◌, Bool, true, false, ◌&&◌, Float, refl}
use Rattle.std.proofs.Common.{le-ltb}
use Rattle.double.specs.Fraction.{Fraction}
use Rattle.double.specs.Doubles.{nought}
use Rattle.tables.specs.Tables.{coefficient_at, a_decimal, b_decimal, a_at, b_at}

pub record IsNoughtOutside (at : ℕ → ℕ → Float) : Type 0 where
  pub below : (i k : ℕ) → 10 ≤ i → at i k ≡ nought
  pub beside : (i k : ℕ) → 9 ≤ k → at i k ≡ nought

never : (b : Bool) → b && false ≡ false
never true = refl
never false = refl

outside : (table : ℕ → ℕ → Fraction) → IsNoughtOutside (coefficient_at table)
unfolding coefficient_at
outside table = record { below = λ i k h. rw (le-ltb i 10 h); beside = λ i k h. rw (le-ltb k 9 h, never) }

pub a_outside : IsNoughtOutside a_at
unfolding a_at
a_outside = outside a_decimal

pub b_outside : IsNoughtOutside b_at
unfolding b_at
b_outside = outside b_decimal
