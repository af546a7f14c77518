-- Words put into bytes one after another are the bytes of the form.
use Rattle.std.proofs.Common.{◌≡◌, ℕ, zero, suc, ◌+◌, ◌-◌, ◌*◌, ◌/◌, ◌%◌, ◌^◌, ◌<◌, ◌≤◌, List, [], ◌∷◌, length, get_or, set, sym, refl, ap, ◌∙◌, ap₂, arith, length-set, ne_eqb}
use borrow.Rule.Slice.PartMut.{put_mid}
use Rattle.blocks.specs.Rows.{filled}
use Rattle.blocks.specs.Words.{put_word, put_words}
use Rattle.blocks.specs.Blocks.{little_endian, block_word, check, form_word, form_byte, form}
use Rattle.blocks.proofs.Filled.{filled_row}

pub length_put : (l : List ℕ) (i w : ℕ) → length (put_word l i w) ≡ length l
unfolding put_word
length_put l i w = simp length-set

-- four bytes at a time, or one after the other
pub put_four : (k : ℕ) (l : List ℕ) (a b c d : ℕ) → k + 4 ≤ length l
    → put_mid k 4 l (a ∷ b ∷ c ∷ d ∷ []) ≡ set (set (set (set l k a) (k + 1) b) (k + 2) c) (k + 3) d
put_four zero [] a b c d h = absurd (omega arith)
put_four zero (x ∷ []) a b c d h = absurd (omega arith)
put_four zero (x ∷ y ∷ []) a b c d h = absurd (omega arith)
put_four zero (x ∷ y ∷ z ∷ []) a b c d h = absurd (omega arith)
put_four zero (x ∷ y ∷ z ∷ u ∷ l) a b c d h = refl
put_four (suc k) [] a b c d h = absurd (omega arith)
put_four (suc k) (x ∷ l) a b c d h =
    let e₁ : suc k + 1 ≡ suc (k + 1) = omega arith in
    let e₂ : suc k + 2 ≡ suc (k + 2) = omega arith in
    let e₃ : suc k + 3 ≡ suc (k + 3) = omega arith in
    rw (e₁, e₂, e₃) (ap (λ (t : List ℕ). x ∷ t) (put_four k l a b c d (omega arith)))

-- words put in two goes
pub puts_on : (word : ℕ → ℕ) (i m n : ℕ) (l : List ℕ) → put_words word (i + m) n (put_words word i m l) ≡ put_words word i (m + n) l
unfolding put_words
puts_on word i m zero l = let e : m ≡ m + 0 = omega arith in ap (λ (k : ℕ). put_words word i k l) e
puts_on word i m (suc n) l =
    let e : i + m + n ≡ i + (m + n) = omega arith in
    let d : suc (m + n) ≡ m + suc n = omega arith in
    ap₂ (λ (k : ℕ) (x : List ℕ). put_word x k (word k)) e (puts_on word i m n l) ∙ ap (λ (k : ℕ). put_words word i k l) d

-- ---- the words of the form
-- word j of the content of block b
pub at_content : (content : List ℕ) (b j : ℕ) → block_word content b (suc j) ≡ get_or content (126 * b + j) 0
unfolding block_word
at_content content b j =
    let e : suc j - 1 ≡ j = omega arith in
    rw (ne_eqb (suc j) 0 (λ (z : suc j ≡ 0). omega arith), e) refl

pub form_content : (content : List ℕ) (b j : ℕ) → j < 126 → form_word content (128 * b + 1 + j) ≡ get_or content (126 * b + j) 0
unfolding form_word
form_content content b j h =
    let e : (128 * b + 1 + j) % 128 ≡ suc j = omega arith in
    let d : (128 * b + 1 + j) / 128 ≡ b = omega arith in
    rw (e, d, ne_eqb (suc j) 127 (λ (z : suc j ≡ 127). omega arith)) (at_content content b j)

-- one word more of a block's content
pub check_more : (content : List ℕ) (b j : ℕ)
    → check (block_word content b) (suc (suc j)) ≡ (check (block_word content b) (suc j) + get_or content (126 * b + j) 0) % 2 ^ 32
unfolding check
check_more content b j = ap (λ (w : ℕ). (check (block_word content b) (suc j) + w) % 2 ^ 32) (at_content content b j)

pub puts_more : (content : List ℕ) (b j : ℕ) (l : List ℕ) → j < 126
    → put_words (form_word content) (128 * b + 1) (suc j) l
    ≡ put_word (put_words (form_word content) (128 * b + 1) j l) (128 * b + 1 + j) (get_or content (126 * b + j) 0)
unfolding put_words
puts_more content b j l h =
    ap (put_word (put_words (form_word content) (128 * b + 1) j l) (128 * b + 1 + j)) (form_content content b j h)

pub form_number : (content : List ℕ) (b : ℕ) → form_word content (128 * b) ≡ b
unfolding form_word block_word
form_number content b =
    let e : 128 * b % 128 ≡ 0 = omega arith in
    let d : 128 * b / 128 ≡ b = omega arith in
    rw (e, d) refl

pub form_check : (content : List ℕ) (b : ℕ) → form_word content (128 * b + 127) ≡ check (block_word content b) 127
unfolding form_word
form_check content b =
    let e : (128 * b + 127) % 128 ≡ 127 = omega arith in
    let d : (128 * b + 127) / 128 ≡ b = omega arith in
    rw (e, d) refl

-- a block: its number, its content, its check
pub block_put : (content : List ℕ) (b : ℕ) (l : List ℕ)
    → put_word (put_words (form_word content) (128 * b + 1) 126 (put_word l (128 * b) b)) (128 * b + 127) (check (block_word content b) 127)
    ≡ put_words (form_word content) (128 * b) 128 l
unfolding put_words
block_put content b l =
    let w = form_word content in
    let n : put_word l (128 * b) b ≡ put_words w (128 * b) 1 l =
    (let e : 128 * b ≡ 128 * b + 0 = omega arith in
    ap (put_word l (128 * b)) (sym (form_number content b)) ∙ ap (λ (i : ℕ). put_word l i (w i)) e) in
    ap₂ (λ (x : List ℕ) (sum : ℕ). put_word x (128 * b + 127) sum)
    (ap (put_words w (128 * b + 1) 126) n ∙ puts_on w (128 * b) 1 126 l)
    (sym (form_check content b))

-- ---- all of them
-- byte r of word n
at_byte : (content : List ℕ) (n r : ℕ) → r < 4 → form_byte content (4 * n + r) ≡ get_or (little_endian (form_word content n)) r 0
unfolding form_byte
at_byte content n r h =
    let e : (4 * n + r) / 4 ≡ n = omega arith in
    let d : (4 * n + r) % 4 ≡ r = omega arith in
    rw (e, d) refl

filled_word : (content : List ℕ) (n : ℕ) (l : List ℕ)
    → filled (form_byte content) (4 * suc n) l ≡ put_word (filled (form_byte content) (4 * n) l) n (form_word content n)
unfolding filled put_word little_endian
filled_word content n l =
    let e : 4 * suc n ≡ suc (suc (suc (suc (4 * n)))) = omega arith in
    let e₁ : suc (4 * n) ≡ 4 * n + 1 = omega arith in
    let e₂ : suc (suc (4 * n)) ≡ 4 * n + 2 = omega arith in
    let e₃ : suc (suc (suc (4 * n))) ≡ 4 * n + 3 = omega arith in
    let e₀ : 4 * n ≡ 4 * n + 0 = omega arith in
    let b₀ = at_byte content n 0 (omega arith) in
    let b₁ = at_byte content n 1 (omega arith) in
    let b₂ = at_byte content n 2 (omega arith) in
    let b₃ = at_byte content n 3 (omega arith) in
    rw e (cc)

puts_filled : (content : List ℕ) (n : ℕ) (l : List ℕ) → put_words (form_word content) 0 n l ≡ filled (form_byte content) (4 * n) l
unfolding put_words filled
puts_filled content zero l = refl
puts_filled content (suc n) l =
    let e : 0 + n ≡ n = omega arith in
    rw e (ap (λ (x : List ℕ). put_word x n (form_word content n)) (puts_filled content n l) ∙ sym (filled_word content n l))

-- so many words are the form
pub form_put : (content l : List ℕ) → length l ≡ 2048 → put_words (form_word content) 0 512 l ≡ form content
unfolding form
form_put content l e = puts_filled content 512 l ∙ filled_row (form_byte content) 2048 l 0 e
