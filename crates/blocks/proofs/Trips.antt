-- Writing and reading undo each other.
use Rattle.std.proofs.Common.{◌≡◌, ℕ, zero, suc, ◌+◌, ◌-◌, ◌*◌, ◌/◌, ◌%◌, ◌^◌, ◌<◌, Bool, true, false, cond, eqb, ◌≢◌, List, length, get_or, sym, refl, ap, ◌∙◌, ap₂, arith, eq-eqb, ne_eqb, eqb-true}
use native.Mathlib.Nat.{div-div-eq-div-mul}
use borrow.Author.Tests.{eqb-false}
use Rattle.blocks.specs.Blocks.{little_endian, word_at, block_word, check, form_word, form_byte, form, block_is_whole, is_whole, content_at, content_of}
use Rattle.blocks.specs.Trips.{Below, ReadAgain, WrittenIsRead, ReadIsWritten}
use Rattle.blocks.proofs.Filled.{length_row, at_row, row_of, same_row}
use Rattle.blocks.proofs.Words.{form_check}
use Rattle.blocks.proofs.Whole.{Whole, whole_length, whole_block}

-- ---- a word and its bytes
word_back : (w : ℕ) → w < 2 ^ 32 → w % 256 + 256 * (w / 256 % 256) + 65536 * (w / 65536 % 256) + 16777216 * (w / 16777216 % 256) ≡ w
word_back w h = rw (e, f) (omega arith)
  where
    e : w / 65536 ≡ w / 256 / 256
    e = sym (div-div-eq-div-mul w 256 256)

    f : w / 16777216 ≡ w / 256 / 256 / 256
    f = sym (ap (λ (x : ℕ). x / 256) (div-div-eq-div-mul w 256 256) ∙ div-div-eq-div-mul w 65536 256)

byte_back : (a b c d r : ℕ) → a < 256 → b < 256 → c < 256 → d < 256 → (bytes : ℕ → ℕ) → a ≡ bytes 0 → b ≡ bytes 1 → c ≡ bytes 2 → d ≡ bytes 3 → r < 4
    → get_or (little_endian (a + 256 * b + 65536 * c + 16777216 * d)) r 0 ≡ bytes r
unfolding little_endian
byte_back a b c d zero ha hb hc hd bytes ea eb ec ed h = omega arith
byte_back a b c d (suc zero) ha hb hc hd bytes ea eb ec ed h = omega arith
byte_back a b c d (suc (suc zero)) ha hb hc hd bytes ea eb ec ed h = omega arith
byte_back a b c d (suc (suc (suc zero))) ha hb hc hd bytes ea eb ec ed h = omega arith
byte_back a b c d (suc (suc (suc (suc r)))) ha hb hc hd bytes ea eb ec ed h = absurd (omega arith)

-- ---- the check goes by the words alone
same_check : (f g : ℕ → ℕ) (n : ℕ) → ((j : ℕ) → j < n → f j ≡ g j) → check f n ≡ check g n
unfolding check
same_check f g zero h = refl
same_check f g (suc n) h =
    ap₂ (λ (x y : ℕ). (x + y) % 2 ^ 32) (same_check f g n (λ (j : ℕ) (b : j < n). h j (omega arith))) (h n (omega arith))

check_small : (f : ℕ → ℕ) (n : ℕ) → check f n < 2 ^ 32
unfolding check
check_small f zero = omega arith
check_small f (suc n) = omega arith

-- ---- what is written is read again
module _ (content : List ℕ) (size : length content ≡ 504) (small : Below (2 ^ 32) content) where
  at_form : (i : ℕ) → i < 2048 → get_or (form content) i 0 ≡ form_byte content i
  unfolding form
  at_form i h = at_row (form_byte content) 2048 i 0 h

  block_small : (b j : ℕ) → b < 4 → block_word content b j < 2 ^ 32
  unfolding block_word
  block_small b j h = go (eqb j 0)
    where
      go : (d : Bool) → cond d b (get_or content (126 * b + (j - 1)) 0) < 2 ^ 32
      go true = omega arith
      go false = small (126 * b + (j - 1))

  word_small : (i : ℕ) → i < 512 → form_word content i < 2 ^ 32
  unfolding form_word
  word_small i h = go (eqb (i % 128) 127)
    where
      go : (d : Bool) → cond d (check (block_word content (i / 128)) 127) (block_word content (i / 128) (i % 128)) < 2 ^ 32
      go true = check_small _ 127
      go false = block_small (i / 128) (i % 128) (omega arith)

  word_is : (i : ℕ) → i < 512 → word_at (form content) i ≡ form_word content i
  unfolding word_at form_byte little_endian
  word_is i h =
      rw (at_form (4 * i) (omega arith), at_form (4 * i + 1) (omega arith), at_form (4 * i + 2) (omega arith), at_form (4 * i + 3) (omega arith))
      (let a : 4 * i / 4 ≡ i = omega arith in
      let b : (4 * i + 1) / 4 ≡ i = omega arith in
      let c : (4 * i + 2) / 4 ≡ i = omega arith in
      let d : (4 * i + 3) / 4 ≡ i = omega arith in
      let e : 4 * i % 4 ≡ 0 = omega arith in
      let f : (4 * i + 1) % 4 ≡ 1 = omega arith in
      let g : (4 * i + 2) % 4 ≡ 2 = omega arith in
      let k : (4 * i + 3) % 4 ≡ 3 = omega arith in
      simp (a, b, c, d, e, f, g, k) (word_back (form_word content i) (word_small i h)))

  -- word j of block b stands at word 128b + j
  block_is : (b j : ℕ) → b < 4 → j < 127 → word_at (form content) (128 * b + j) ≡ block_word content b j
  unfolding form_word
  block_is b j h k =
      word_is (128 * b + j) (omega arith)
      ∙ (let e : (128 * b + j) % 128 ≡ j = omega arith in
      let d : (128 * b + j) / 128 ≡ b = omega arith in
      rw (e, d, ne_eqb j 127 (λ (z : j ≡ 127). omega arith)))

  check_is : (b : ℕ) → b < 4 → word_at (form content) (128 * b + 127) ≡ check (block_word content b) 127
  check_is b h = word_is (128 * b + 127) (omega arith) ∙ form_check content b

  whole_is : (b : ℕ) → b < 4 → block_is_whole (form content) b ≡ true
  unfolding block_is_whole block_word
  whole_is b h =
      let n : word_at (form content) (128 * b) ≡ b = ap (word_at (form content)) (omega arith) ∙ block_is b 0 h (omega arith) in
      let s : check (λ (j : ℕ). word_at (form content) (128 * b + j)) 127 ≡ check (block_word content b) 127 =
      same_check (λ (j : ℕ). word_at (form content) (128 * b + j)) (block_word content b) 127 (λ (j : ℕ) (k : j < 127). block_is b j h k) in
      rw (eq-eqb _ _ n, eq-eqb _ _ (check_is b h ∙ sym s))

  content_is : (j : ℕ) → j < 504 → content_at (form content) j ≡ get_or content j 0
  unfolding content_at block_word
  content_is j h =
      ap (word_at (form content)) (omega arith)
      ∙ block_is (j / 126) (1 + j % 126) (omega arith) (omega arith)
      ∙ (let e : 126 * (j / 126) + (1 + j % 126 - 1) ≡ j = omega arith in rw (ne_eqb (1 + j % 126) 0 (λ (z : 1 + j % 126 ≡ 0). omega arith), e))

  again : ReadAgain content
  unfolding is_whole content_of form
  again =
      record {
        whole = rw (eq-eqb _ _ (length_row (form_byte content) 2048), whole_is 0 (omega arith), whole_is 1 (omega arith), whole_is 2 (omega arith), whole_is 3 (omega arith));
        same = same_row (content_at (form content)) (λ (j : ℕ). get_or content j 0) 504 content_is ∙ row_of content 0 504 size;
      }

pub written_is_read : WrittenIsRead
written_is_read = again

-- ---- and what is read is written again
module _ (bytes : List ℕ) (small : Below 256 bytes) (whole : is_whole bytes ≡ true) where
  at_content : (j : ℕ) → j < 504 → get_or (content_of bytes) j 0 ≡ content_at bytes j
  unfolding content_of
  at_content j h = at_row (content_at bytes) 504 j 0 h

  block_again : (b j : ℕ) → b < 4 → j < 127 → block_word (content_of bytes) b j ≡ word_at bytes (128 * b + j)
  unfolding block_word content_at
  block_again b zero h k = sym (whole_block bytes b h whole).number ∙ ap (word_at bytes) (omega arith)
  block_again b (suc j) h k =
      rw (ne_eqb (suc j) 0 (λ (z : suc j ≡ 0). omega arith)) (at_content (126 * b + (suc j - 1)) (omega arith) ∙ ap (word_at bytes) (omega arith))

  word_again : (i : ℕ) → i < 512 → form_word (content_of bytes) i ≡ word_at bytes i
  unfolding form_word
  word_again i h = go (eqb (i % 128) 127) refl
    where
      w : Whole bytes (i / 128)
      w = whole_block bytes (i / 128) (omega arith) whole

      go : (d : Bool) → eqb (i % 128) 127 ≡ d
          → cond d (check (block_word (content_of bytes) (i / 128)) 127) (block_word (content_of bytes) (i / 128) (i % 128)) ≡ word_at bytes i
      go true e =
          same_check (block_word (content_of bytes) (i / 128)) (λ (j : ℕ). word_at bytes (128 * (i / 128) + j)) 127 (λ (j : ℕ) (k : j < 127). block_again (i / 128) j (omega arith) k)
          ∙ sym w.sum
          ∙ ap (word_at bytes) (let z : i % 128 ≡ 127 = eqb-true _ _ e in omega arith)
      go false e =
          let z : i % 128 ≢ 127 = eqb-false _ _ e in
          block_again (i / 128) (i % 128) (omega arith) (omega arith) ∙ ap (word_at bytes) (omega arith)

  byte_again : (i : ℕ) → i < 2048 → form_byte (content_of bytes) i ≡ get_or bytes i 0
  unfolding form_byte word_at
  byte_again i h =
      ap (λ (w : ℕ). get_or (little_endian w) (i % 4) 0) (word_again (i / 4) (omega arith))
      ∙ byte_back _ _ _ _ (i % 4) (small (4 * (i / 4))) (small (4 * (i / 4) + 1)) (small (4 * (i / 4) + 2)) (small (4 * (i / 4) + 3)) (λ (r : ℕ). get_or bytes (4 * (i / 4) + r) 0) (ap (λ (n : ℕ). get_or bytes n 0) (omega arith)) refl refl refl (omega arith)
      ∙ ap (λ (n : ℕ). get_or bytes n 0) (omega arith)

  written_again : form (content_of bytes) ≡ bytes
  unfolding form
  written_again =
      same_row (form_byte (content_of bytes)) (λ (i : ℕ). get_or bytes i 0) 2048 byte_again
      ∙ row_of bytes 0 2048 (whole_length bytes whole)

pub read_is_written : ReadIsWritten
read_is_written = written_again
