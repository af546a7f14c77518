-- The row f 0, f 1, .. of n values.
use Rattle.std.specs.Prelude.{ℕ, zero, suc, ◌+◌, List, [], ◌∷◌, slice_set}

module _ {A : Type 0} where
  unfoldable pub row : (ℕ → A) → ℕ → List A
  row f zero = []
  row f (suc n) = f zero ∷ row (λ (i : ℕ). f (suc i)) n

  -- its first n values, written into a list from the list's start
  unfoldable pub filled : (ℕ → A) → ℕ → List A → List A
  filled f zero l = l
  filled f (suc n) l = slice_set (filled f n l) n (f n)

  -- n of its values, from value i on, written into a list at their places
  unfoldable pub filled_from : (ℕ → A) → ℕ → ℕ → List A → List A
  filled_from f i zero l = l
  filled_from f i (suc n) l = slice_set (filled_from f i n l) (i + n) (f (i + n))
