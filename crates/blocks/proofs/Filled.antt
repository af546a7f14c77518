-- A list that is filled from its start to its end is a row.
use Rattle.std.proofs.Common.{◌≡◌, ℕ, zero, suc, ◌+◌, ◌<◌, ◌≤◌, List, ◌∷◌, length, get_or, set, sym, refl, ap, ◌∙◌, ap₂, ⊎_elim, eq-or-lt_of_le, arith, length-set, get_or-set_other, get_or-set_same, ext_get_or}
use Rattle.blocks.specs.Rows.{row, filled, filled_from}

module _ {A : Type 0} where
  pub length_row : (f : ℕ → A) (n : ℕ) → length (row f n) ≡ n
  unfolding row
  length_row f zero = refl
  length_row f (suc n) = ap suc (length_row (λ (i : ℕ). f (suc i)) n)

  -- element i of a row is f i
  pub at_row : (f : ℕ → A) (n i : ℕ) (d : A) → i < n → get_or (row f n) i d ≡ f i
  unfolding row
  at_row f zero i d h = absurd (omega arith)
  at_row f (suc n) zero d h = refl
  at_row f (suc n) (suc i) d h = at_row (λ (i : ℕ). f (suc i)) n i d (omega arith)

  -- a list is the row of its own elements
  pub row_of : (l : List A) (d : A) (n : ℕ) → length l ≡ n → row (λ (i : ℕ). get_or l i d) n ≡ l
  row_of l d n e =
      ext_get_or d _ l (length_row _ n ∙ sym e)
      (λ (i : ℕ) (h : i < length (row (λ (i : ℕ). get_or l i d) n)). at_row _ n i d (omega (arith, h, length_row (λ (i : ℕ). get_or l i d) n)))

  -- two rows of equal values
  pub same_row : (f g : ℕ → A) (n : ℕ) → ((i : ℕ) → i < n → f i ≡ g i) → row f n ≡ row g n
  unfolding row
  same_row f g zero h = refl
  same_row f g (suc n) h =
      ap₂ (λ (x : A) (xs : List A). x ∷ xs) (h zero (omega arith))
      (same_row (λ (i : ℕ). f (suc i)) (λ (i : ℕ). g (suc i)) n (λ (i : ℕ) (b : i < n). h (suc i) (omega arith)))

  pub length_filled : (f : ℕ → A) (n : ℕ) (l : List A) → length (filled f n l) ≡ length l
  unfolding filled
  length_filled f zero l = refl
  length_filled f (suc n) l = length-set (filled f n l) n (f n) ∙ length_filled f n l

  pub at_filled : (f : ℕ → A) (n : ℕ) (l : List A) (i : ℕ) (d : A) → n ≤ length l → i < n → get_or (filled f n l) i d ≡ f i
  unfolding filled
  at_filled f zero l i d h b = absurd (omega arith)
  at_filled f (suc n) l i d h b =
      ⊎_elim
      (λ (e : i ≡ n). ap (λ (k : ℕ). get_or (set (filled f n l) n (f n)) k d) e ∙ get_or-set_same (filled f n l) n (f n) d (omega (arith, length_filled f n l)) ∙ ap f (sym e))
      (λ (e : i < n). get_or-set_other (filled f n l) n i (f n) d (λ (z : i ≡ n). omega arith) ∙ at_filled f n l i d (omega arith) e)
      (eq-or-lt_of_le (omega arith))

  pub filled_row : (f : ℕ → A) (n : ℕ) (l : List A) (d : A) → length l ≡ n → filled f n l ≡ row f n
  filled_row f n l d e =
      ext_get_or d _ _ (length_filled f n l ∙ e ∙ sym (length_row f n))
      (λ (i : ℕ) (h : i < length (filled f n l)).
      let b : i < n = omega (arith, length_filled f n l) in at_filled f n l i d (omega arith) b ∙ sym (at_row f n i d b))

  -- a list filled in two goes
  pub filled_on : (f : ℕ → A) (m n : ℕ) (l : List A) → filled_from f m n (filled f m l) ≡ filled f (m + n) l
  unfolding filled filled_from
  filled_on f m zero l = let e : m ≡ m + 0 = omega arith in ap (λ (k : ℕ). filled f k l) e
  filled_on f m (suc n) l =
      let e : suc (m + n) ≡ m + suc n = omega arith in
      ap (λ (x : List A). set x (m + n) (f (m + n))) (filled_on f m n l) ∙ ap (λ (k : ℕ). filled f k l) e
