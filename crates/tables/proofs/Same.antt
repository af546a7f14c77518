-- Every coefficient is the same bits as before W-205, in the tables and outside: `a_same_bits`, `b_same_bits`. In the tables it is computed, entry by entry.
use mathlib.Core.Path.{◌≡◌, ap, fun_ext}
use mathlib.Core.List.{List}
use Prim.Native.Nat.{ℕ, ◌≤◌, ◌<◌}
use mathlib.Core.Bool.{Bool, true, false, not, ◌&&◌, cond}
use lib.Dec.{T, eqb, ltb, eqb→eq, ltb→lt, nltb→le}
use lib.IntN.{nat_abs}
use lib.Ieee.{binary64, round, fits, of_bits, to_bits}
use lib.Ieee.Fits.{round-fits}
use Rattle.double.specs.Doubles.{Double, nought}
use Rattle.double.specs.Fraction.{Fraction}
use Rattle.double.specs.Nearest.{is_negative, nearest_double}
use Rattle.double.proofs.Patterns.{read_back}
use Rattle.tables.specs.Tables.{a_decimal, b_decimal, coefficient_at, a_at, b_at, ten_rows}
use Rattle.tables.proofs.Before.{a_bits, b_bits, entry}
use Rattle.tables.proofs.Every.{every, two}
use Rattle.tables.proofs.Rows.{Shape, shape_of_a, shape_of_b, below, beside}

double_coefficient : (table : ℕ → ℕ → Fraction) (i k : ℕ) → Double (coefficient_at table i k)
unfolding coefficient_at nearest_double fits
double_coefficient table i k = go (ltb i 10 && ltb k 9)
  where
    go : (b : Bool) → Double (cond b (nearest_double (table i k)) nought)
    go true = round-fits binary64 (is_negative (table i k).over) (nat_abs (table i k).over) (table i k).under
    go false = tt

pub a_double : (i k : ℕ) → Double (a_at i k)
unfolding a_at
a_double = double_coefficient a_decimal

pub b_double : (i k : ℕ) → Double (b_at i k)
unfolding b_at
b_double = double_coefficient b_decimal

abbrev same_at : (ℕ → ℕ → Fraction) → List (List ℕ) → ℕ → ℕ → Bool
same_at table bits i k = eqb (to_bits binary64 (nearest_double (table i k))) (entry bits i k)

same_bits : (table : ℕ → ℕ → Fraction) (bits : List (List ℕ)) → Shape bits → T (every 10 (λ i. every 9 (same_at table bits i))) → (i k : ℕ)
    → to_bits binary64 (coefficient_at table i k) ≡ entry bits i k
unfolding coefficient_at to_bits
same_bits table bits shape same i k = go (ltb i 10) (ltb k 9) (ltb→lt i 10) (nltb→le i 10) (ltb→lt k 9) (nltb→le k 9)
  where
    go : (p q : Bool) → (T p → i < 10) → (T (not p) → 10 ≤ i) → (T q → k < 9) → (T (not q) → 9 ≤ k) → to_bits binary64 (cond (p && q) (nearest_double (table i k)) nought) ≡ entry bits i k
    go true true h h' l l' = eqb→eq (to_bits binary64 (nearest_double (table i k))) (entry bits i k) (two 10 9 (same_at table bits) same i k (h tt) (l tt))
    go true false h h' l l' = beside shape i k (l' tt)
    go false q h h' l l' = below shape i k (h' tt)

pub a_same_bits : (i k : ℕ) → to_bits binary64 (a_at i k) ≡ entry a_bits i k
unfolding a_at a_decimal nearest_double round to_bits entry a_bits
a_same_bits i k = same_bits a_decimal a_bits shape_of_a tt i k

pub b_same_bits : (i k : ℕ) → to_bits binary64 (b_at i k) ≡ entry b_bits i k
unfolding b_at b_decimal nearest_double round to_bits entry b_bits
b_same_bits i k = same_bits b_decimal b_bits shape_of_b tt i k

-- so a coefficient is what its pattern stands for, as it was defined before
pub a_was : (i k : ℕ) → of_bits binary64 (entry a_bits i k) ≡ a_at i k
a_was i k = read_back (a_at i k) (entry a_bits i k) (a_double i k) (a_same_bits i k)

pub b_was : (i k : ℕ) → of_bits binary64 (entry b_bits i k) ≡ b_at i k
b_was i k = read_back (b_at i k) (entry b_bits i k) (b_double i k) (b_same_bits i k)

-- and the ten rows are what their patterns stand for
pub a_rows_were : ten_rows (λ i k. of_bits binary64 (entry a_bits i k)) ≡ ten_rows a_at
a_rows_were = ap ten_rows (fun_ext (λ i. fun_ext (λ k. a_was i k)))

pub b_rows_were : ten_rows (λ i k. of_bits binary64 (entry b_bits i k)) ≡ ten_rows b_at
b_rows_were = ap ten_rows (fun_ext (λ i. fun_ext (λ k. b_was i k)))
