-- W-201: "The stored form is four blocks of 512 bytes: block number from 0, 504 bytes of content, and a check that is 1 plus the sum of the 127
-- words before it, taken modulo 2^32. Words are 32 bits, little-endian".
use Rattle.std.specs.Prelude.{ℕ, zero, suc, ◌+◌, ◌-◌, ◌*◌, ◌/◌, ◌%◌, ◌^◌, Bool, cond, ◌&&◌, List, [], ◌∷◌, length, ◌==◌, slice_index}
use Rattle.blocks.specs.Rows.{row, filled}

-- the four bytes of a word
unfoldable pub little_endian : ℕ → List ℕ
little_endian w = w % 256 ∷ w / 256 % 256 ∷ w / 65536 % 256 ∷ w / 16777216 % 256 ∷ []

-- ---- from the content, 504 words, to the bytes
-- word j of block b, up to its check: its number, then its 126 words of content
unfoldable pub block_word : List ℕ → ℕ → ℕ → ℕ
block_word content b j = cond (j == 0) b (slice_index content (126 * b + (j - 1)))

-- 1 plus the sum of the first n words, modulo 2^32
unfoldable pub check : (ℕ → ℕ) → ℕ → ℕ
check word zero = 1
check word (suc n) = (check word n + word n) % 2 ^ 32

unfoldable pub form_word : List ℕ → ℕ → ℕ
form_word content i =
    cond (i % 128 == 127) (check (block_word content (i / 128)) 127) (block_word content (i / 128) (i % 128))

unfoldable pub form_byte : List ℕ → ℕ → ℕ
form_byte content i = slice_index (little_endian (form_word content (i / 4))) (i % 4)

unfoldable pub form : List ℕ → List ℕ
form content = row (form_byte content) 2048

-- 10: "a buffer that is not 2,048 bytes, which stays untouched"
unfoldable pub written : List ℕ → List ℕ → List ℕ
written content out = cond (length out == 2048) (form content) out

-- ---- and back
unfoldable pub word_at : List ℕ → ℕ → ℕ
word_at bytes i = slice_index bytes (4 * i) + 256 * slice_index bytes (4 * i + 1) + 65536 * slice_index bytes (4 * i + 2) + 16777216 * slice_index bytes (4 * i + 3)

-- block b has its number and its check
unfoldable pub block_is_whole : List ℕ → ℕ → Bool
block_is_whole bytes b =
    (word_at bytes (128 * b) == b) && word_at bytes (128 * b + 127) == check (λ (j : ℕ). word_at bytes (128 * b + j)) 127

-- 10: "a wrong length, block number or check"
unfoldable pub is_whole : List ℕ → Bool
is_whole bytes = length bytes == 2048 && block_is_whole bytes 0 && block_is_whole bytes 1 && block_is_whole bytes 2 && block_is_whole bytes 3

-- word j of the content
unfoldable pub content_at : List ℕ → ℕ → ℕ
content_at bytes j = word_at bytes (128 * (j / 126) + 1 + j % 126)

unfoldable pub content_of : List ℕ → List ℕ
content_of bytes = row (content_at bytes) 504

-- over a row of words, where the bytes are 2,048; whole or not
unfoldable pub taken : (bytes content : List ℕ) → List ℕ
taken bytes content = cond (length bytes == 2048) (filled (content_at bytes) 504 content) content
