-- What `is_whole` says.
use Rattle.std.proofs.Common.{◌≡◌, ℕ, zero, suc, ◌+◌, ◌*◌, ◌<◌, Bool, true, false, ◌&&◌, eqb, List, length, refl, ⊎_elim, eq-or-lt_of_le, arith, eq-eqb, eqb-true}
use Rattle.blocks.specs.Blocks.{word_at, check, block_is_whole, is_whole, content_at, content_of, taken}
use Rattle.blocks.proofs.Filled.{filled_row}

pub apart : {A : Type 0} → false ≡ true → A
apart e = let z : ◌≡◌ {A = ℕ} 0 1 = cc in absurd (omega arith)

pub both : (p q : Bool) → p && q ≡ true → (p ≡ true) × (q ≡ true)
both true q e = (refl, e)
both false q e = apart e

pub whole_length : (bytes : List ℕ) → is_whole bytes ≡ true → length bytes ≡ 2048
unfolding is_whole
whole_length bytes e = eqb-true _ _ (both _ _ (both _ _ (both _ _ (both _ _ e).0).0).0).0

pub record Whole (bytes : List ℕ) (b : ℕ) : Type 0 where
  pub number : word_at bytes (128 * b) ≡ b
  pub sum : word_at bytes (128 * b + 127) ≡ check (λ (j : ℕ). word_at bytes (128 * b + j)) 127

block_whole : (bytes : List ℕ) (b : ℕ) → block_is_whole bytes b ≡ true → Whole bytes b
unfolding block_is_whole
block_whole bytes b e = let h = both _ _ e in record { number = eqb-true _ _ h.0; sum = eqb-true _ _ h.1 }

-- the length is right, and so are the first blocks
abbrev first : List ℕ → ℕ → Bool
first bytes zero = eqb (length bytes) 2048
first bytes (suc b) = first bytes b && block_is_whole bytes b

up_to : (bytes : List ℕ) (n b : ℕ) → b < n → first bytes n ≡ true → Whole bytes b
up_to bytes zero b h e = absurd (omega arith)
up_to bytes (suc n) b h e =
    ⊎_elim
    (λ (z : b ≡ n). rw z (block_whole bytes n (both (first bytes n) (block_is_whole bytes n) e).1))
    (λ (z : b < n). up_to bytes n b z (both (first bytes n) (block_is_whole bytes n) e).0)
    (eq-or-lt_of_le (omega arith))

pub whole_block : (bytes : List ℕ) (b : ℕ) → b < 4 → is_whole bytes ≡ true → Whole bytes b
unfolding is_whole
whole_block bytes b h e = up_to bytes 4 b h e

-- what is taken of a stored form is its content
pub whole_taken : (bytes content : List ℕ) → is_whole bytes ≡ true → length content ≡ 504 → taken bytes content ≡ content_of bytes
unfolding taken content_of
whole_taken bytes content e l = rw (eq-eqb _ _ (whole_length bytes e)) (filled_row (content_at bytes) 504 content 0 l)
