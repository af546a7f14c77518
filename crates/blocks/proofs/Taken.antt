-- Words taken from the bytes one after another are the content.
use Rattle.std.proofs.Common.{◌≡◌, ℕ, zero, suc, Bool, true, ◌&&◌, ◌+◌, ◌*◌, ◌/◌, ◌%◌, ◌^◌, ◌<◌, List, set, ap, arith}
use Rattle.blocks.specs.Rows.{filled_from}
use Rattle.blocks.specs.Blocks.{word_at, check, block_is_whole, content_at}

-- one word more of block b
pub check_more : (bytes : List ℕ) (b j : ℕ)
    → check (λ (j : ℕ). word_at bytes (128 * b + j)) (suc (suc j))
    ≡ (check (λ (j : ℕ). word_at bytes (128 * b + j)) (suc j) + word_at bytes (128 * b + 1 + j)) % 2 ^ 32
unfolding check
check_more bytes b j =
    let e : 128 * b + suc j ≡ 128 * b + 1 + j = omega arith in
    ap (λ (i : ℕ). (check (λ (j : ℕ). word_at bytes (128 * b + j)) (suc j) + word_at bytes i) % 2 ^ 32) e

pub filled_more : (bytes : List ℕ) (b j : ℕ) (l : List ℕ) → j < 126
    → filled_from (content_at bytes) (126 * b) (suc j) l
    ≡ set (filled_from (content_at bytes) (126 * b) j l) (126 * b + j) (word_at bytes (128 * b + 1 + j))
unfolding filled_from content_at
filled_more bytes b j l h =
    let e : 128 * ((126 * b + j) / 126) + 1 + (126 * b + j) % 126 ≡ 128 * b + 1 + j = omega arith in
    ap (λ (i : ℕ). set (filled_from (content_at bytes) (126 * b) j l) (126 * b + j) (word_at bytes i)) e

-- the first n blocks are whole
abbrev pub whole_so_far : List ℕ → ℕ → Bool
whole_so_far bytes zero = true
whole_so_far bytes (suc n) = whole_so_far bytes n && block_is_whole bytes n
