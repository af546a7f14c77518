-- A table by rows: what stands in it and outside, once for both tables.
use mathlib.Core.Path.{◌≡◌, refl, sym, ap, fun_ext}
use mathlib.Core.List.{List, []}
use Prim.Native.Nat.{ℕ, zero, suc, ◌≤◌, ◌<◌}
use native.Mathlib.Omega.{arith}
use mathlib.Core.Bool.{Bool, true, false, not}
use lib.Dec.{T, leb, leb→le, ltb, ltb→lt, nltb→le}
use lib.ListN.{length, get_or, get_or-eq_default}
use lib.Ieee.{Float}
use Rattle.double.specs.Doubles.{nought}
use Rattle.tables.specs.Tables.{nine, ten_rows}
use Rattle.tables.proofs.Before.{a_bits, b_bits, entry}
use Rattle.tables.proofs.Every.{one}

-- a column of a row
pub nine_at : (f : ℕ → Float) → ((k : ℕ) → 9 ≤ k → f k ≡ nought) → (k : ℕ) → get_or (nine f) k nought ≡ f k
nine_at f h zero = refl
nine_at f h (suc zero) = refl
nine_at f h (suc (suc zero)) = refl
nine_at f h (suc (suc (suc zero))) = refl
nine_at f h (suc (suc (suc (suc zero)))) = refl
nine_at f h (suc (suc (suc (suc (suc zero))))) = refl
nine_at f h (suc (suc (suc (suc (suc (suc zero)))))) = refl
nine_at f h (suc (suc (suc (suc (suc (suc (suc zero))))))) = refl
nine_at f h (suc (suc (suc (suc (suc (suc (suc (suc zero)))))))) = refl
nine_at f h (suc (suc (suc (suc (suc (suc (suc (suc (suc k))))))))) = sym (h (suc (suc (suc (suc (suc (suc (suc (suc (suc k))))))))) (omega arith))

-- a row of ten
pub ten_at : (at : ℕ → ℕ → Float) → ((i k : ℕ) → 10 ≤ i → at i k ≡ nought) → (i : ℕ) → get_or (ten_rows at) i (nine (λ k. nought)) ≡ nine (at i)
ten_at f h zero = refl
ten_at f h (suc zero) = refl
ten_at f h (suc (suc zero)) = refl
ten_at f h (suc (suc (suc zero))) = refl
ten_at f h (suc (suc (suc (suc zero)))) = refl
ten_at f h (suc (suc (suc (suc (suc zero))))) = refl
ten_at f h (suc (suc (suc (suc (suc (suc zero)))))) = refl
ten_at f h (suc (suc (suc (suc (suc (suc (suc zero))))))) = refl
ten_at f h (suc (suc (suc (suc (suc (suc (suc (suc zero)))))))) = refl
ten_at f h (suc (suc (suc (suc (suc (suc (suc (suc (suc zero))))))))) = refl
ten_at f h (suc (suc (suc (suc (suc (suc (suc (suc (suc (suc i)))))))))) = ap nine (fun_ext (λ k. sym (h (suc (suc (suc (suc (suc (suc (suc (suc (suc (suc i)))))))))) k (omega arith))))

-- ten rows of at most nine columns
pub record Shape (t : List (List ℕ)) : Type 0 where
  pub rows : length t ≡ 10
  pub columns : (i : ℕ) → i < 10 → length (get_or t i []) ≤ 9

narrow : List (List ℕ) → ℕ → Bool
narrow t i = leb (length (get_or t i [])) 9

pub shape_of_a : Shape a_bits
unfolding a_bits narrow
shape_of_a = record { rows = refl; columns = λ i h. leb→le (length (get_or a_bits i [])) 9 (one 10 (narrow a_bits) tt i h) }

pub shape_of_b : Shape b_bits
unfolding b_bits narrow
shape_of_b = record { rows = refl; columns = λ i h. leb→le (length (get_or b_bits i [])) 9 (one 10 (narrow b_bits) tt i h) }

-- below the table, and beside it, every pattern is 0
pub below : {t : List (List ℕ)} → Shape t → (i k : ℕ) → 10 ≤ i → 0 ≡ entry t i k
unfolding entry
below {t} s i k h = ap (λ (l : List ℕ). get_or l k 0) (sym (get_or-eq_default t [] (omega (arith, s.rows))))

pub beside : {t : List (List ℕ)} → Shape t → (i k : ℕ) → 9 ≤ k → 0 ≡ entry t i k
unfolding entry
beside {t} s i k h = go (ltb i 10) (ltb→lt i 10) (nltb→le i 10)
  where
    go : (b : Bool) → (T b → i < 10) → (T (not b) → 10 ≤ i) → 0 ≡ entry t i k
    go true f g = sym (get_or-eq_default (get_or t i []) 0 (omega (arith, s.columns i (f tt))))
    go false f g = below s i k (g tt)
