-- Every decimal of the tables is away from the half-way points, which is computed entry by entry, so its coefficient is the f64 nearest to it.
use mathlib.Core.Path.{◌≡◌, sym, subst}
use Prim.Native.Nat.{ℕ, ◌<◌}
use mathlib.Core.Bool.{Bool, true, ◌&&◌, cond}
use lib.Dec.{T, ltb}
use lib.IntN.{nat_abs}
use lib.Ieee.{size}
use borrow.Author.Tests.{lt-ltb}
use Rattle.double.specs.Doubles.{nought}
use Rattle.double.specs.Fraction.{Fraction}
use Rattle.double.specs.Nearest.{nearest_double, IsNearestTo}
use Rattle.double.proofs.Nearest.{is_between_halves, is_no_tie, nearest_double_lem}
use Rattle.tables.specs.Tables.{a_decimal, b_decimal, coefficient_at, a_at, b_at}
use Rattle.tables.specs.Nearest.{NearestOfA, NearestOfB}
use Rattle.tables.proofs.Every.{every, two}

abbrev no_tie_at : (ℕ → ℕ → Fraction) → ℕ → ℕ → Bool
no_tie_at table i k = is_no_tie (nat_abs (table i k).over) (table i k).under

nearest_at : (table : ℕ → ℕ → Fraction) → T (every 10 (λ i. every 9 (no_tie_at table i))) → (i k : ℕ) → i < 10 → k < 9 → IsNearestTo (table i k) (coefficient_at table i k)
unfolding coefficient_at
nearest_at table t i k hi hk =
    subst (λ (b : Bool). IsNearestTo (table i k) (cond b (nearest_double (table i k)) nought)) (sym (within (ltb i 10) (ltb k 9) (lt-ltb i 10 hi) (lt-ltb k 9 hk)))
    (nearest_double_lem (table i k) (two 10 9 (no_tie_at table) t i k hi hk))
  where
    within : (p q : Bool) → p ≡ true → q ≡ true → p && q ≡ true
    within p q h l = cc

pub a_nearest : NearestOfA
unfolding a_at a_decimal is_no_tie is_between_halves size
a_nearest = nearest_at a_decimal tt

pub b_nearest : NearestOfB
unfolding b_at b_decimal is_no_tie is_between_halves size
b_nearest = nearest_at b_decimal tt
