-- Fields of a word, taken out all at once.
use mathlib.Core.Path.{◌≡◌, refl, sym, ◌∙◌, ap, ap₂}
use Prim.Native.Nat.{ℕ, zero, suc, ◌+◌, ◌-◌, ◌*◌, ◌/◌, ◌%◌, ◌^◌, ◌≤◌, ◌<◌}
use native.Mathlib.Nat.{mod-lt, lt_of_lt_of_le}
use native.Mathlib.Omega.{arith}
use mathlib.Core.List.{List, [], ◌∷◌, map}
use lib.Pow.{pow_pos, pow_mono, split, ones_lt, mod-mod-pow}
use lib.Bits.{bit_and, and_block, and_mask, and_zero_r}
use lib.ListN.{length}
use Rattle.std.specs.Int.{w64, to_le_bytes}
use Rattle.lines.specs.Words.{fields, bytes_of}

-- a mask of the k low bits in each of m fields of j + k bits
abbrev pub mask : ℕ → ℕ → ℕ → ℕ
mask j k zero = zero
mask j k (suc m) = mask j k m * 2 ^ (j + k) + (2 ^ k - 1)

-- what it leaves of a word
abbrev pub picked : ℕ → ℕ → ℕ → ℕ → ℕ
picked j k zero w = zero
picked j k (suc m) w = picked j k m (w / 2 ^ (j + k)) * 2 ^ (j + k) + w % 2 ^ k

pub mask_picks : (j k m w : ℕ) → bit_and w (mask j k m) ≡ picked j k m w
mask_picks j k zero w = and_zero_r w
mask_picks j k (suc m) w =
    let e : j + k ≡ k + j = omega arith in
    let h : k ≤ j + k = omega arith in
    ap (λ (n : ℕ). bit_and n (mask j k m * 2 ^ (j + k) + (2 ^ k - 1))) (sym (split w (j + k)))
    ∙ and_block (j + k) (w / 2 ^ (j + k)) (mask j k m) (w % 2 ^ (j + k)) (2 ^ k - 1) (mod-lt w (pow_pos (j + k))) (lt_of_lt_of_le (ones_lt k) (pow_mono h))
    ∙ ap₂ (λ (high low : ℕ). high * 2 ^ (j + k) + low) (mask_picks j k m (w / 2 ^ (j + k))) (and_mask (w % 2 ^ (j + k)) k ∙ mod-mod-pow w j k)

-- each of them below a bound
abbrev pub Below : ℕ → List ℕ → Type 0
Below n [] = Unit {0}
Below n (x ∷ xs) = (x < n) × Below n xs

-- a mask takes the low bits of every field, behind a shift too: what a shift brings in from the next field is masked away
pub each_picked : (j k s : ℕ)
    → ((high x : ℕ) → x < 2 ^ (j + k) → (high * 2 ^ (j + k) + x) / s / 2 ^ (j + k) ≡ high / s)
    → ((high x : ℕ) → x < 2 ^ (j + k) → (high * 2 ^ (j + k) + x) / s % 2 ^ k ≡ x / s % 2 ^ k)
    → (xs : List ℕ) → Below (2 ^ (j + k)) xs
    → bit_and (fields (2 ^ (j + k)) xs / s) (mask j k (length xs)) ≡ fields (2 ^ (j + k)) (map (λ (x : ℕ). x / s % 2 ^ k) xs)
unfolding fields
each_picked j k s rest own [] b = and_zero_r (0 / s)
each_picked j k s rest own (x ∷ xs) b =
    let size = 2 ^ (j + k) in
    let w = (fields size xs * size + x) / s in
    mask_picks j k (suc (length xs)) w
    ∙ ap₂ (λ (high low : ℕ). high * size + low)
    (ap (picked j k (length xs)) (rest (fields size xs) x b.0) ∙ sym (mask_picks j k (length xs) (fields size xs / s)) ∙ each_picked j k s rest own xs b.1)
    (own (fields size xs) x b.0)

-- ---- fields put together: sums alone
pub join_bytes : (u₀ v₀ u₁ v₁ : ℕ)
    → fields 4294967296 (v₀ ∷ v₁ ∷ []) * 65536 + fields 4294967296 (u₀ ∷ u₁ ∷ []) ≡ fields 65536 (u₀ ∷ v₀ ∷ u₁ ∷ v₁ ∷ [])
unfolding fields
join_bytes u₀ v₀ u₁ v₁ = omega arith

pub join_halves : (u₀ v₀ u₁ v₁ u₂ v₂ u₃ v₃ : ℕ)
    → fields 65536 (v₀ ∷ v₁ ∷ v₂ ∷ v₃ ∷ []) * 256 + fields 65536 (u₀ ∷ u₁ ∷ u₂ ∷ u₃ ∷ [])
    ≡ fields 256 (u₀ ∷ v₀ ∷ u₁ ∷ v₁ ∷ u₂ ∷ v₂ ∷ u₃ ∷ v₃ ∷ [])
unfolding fields
join_halves u₀ v₀ u₁ v₁ u₂ v₂ u₃ v₃ = omega arith

pub six_more : (d₀ d₁ d₂ d₃ d₄ d₅ d₆ d₇ : ℕ)
    → fields 256 (d₀ ∷ d₁ ∷ d₂ ∷ d₃ ∷ d₄ ∷ d₅ ∷ d₆ ∷ d₇ ∷ []) + 0x0606_0606_0606_0606
    ≡ fields 256 ((d₀ + 6) ∷ (d₁ + 6) ∷ (d₂ + 6) ∷ (d₃ + 6) ∷ (d₄ + 6) ∷ (d₅ + 6) ∷ (d₆ + 6) ∷ (d₇ + 6) ∷ [])
unfolding fields
six_more d₀ d₁ d₂ d₃ d₄ d₅ d₆ d₇ = omega arith

pub with_letters : (d₀ d₁ d₂ d₃ d₄ d₅ d₆ d₇ t₀ t₁ t₂ t₃ t₄ t₅ t₆ t₇ : ℕ)
    → fields 256 (d₀ ∷ d₁ ∷ d₂ ∷ d₃ ∷ d₄ ∷ d₅ ∷ d₆ ∷ d₇ ∷ []) + 0x3030_3030_3030_3030 + fields 256 (t₀ ∷ t₁ ∷ t₂ ∷ t₃ ∷ t₄ ∷ t₅ ∷ t₆ ∷ t₇ ∷ []) * 39
    ≡ fields 256 ((d₀ + 48 + t₀ * 39) ∷ (d₁ + 48 + t₁ * 39) ∷ (d₂ + 48 + t₂ * 39) ∷ (d₃ + 48 + t₃ * 39) ∷ (d₄ + 48 + t₄ * 39) ∷ (d₅ + 48 + t₅ * 39) ∷ (d₆ + 48 + t₆ * 39) ∷ (d₇ + 48 + t₇ * 39) ∷ [])
unfolding fields
with_letters d₀ d₁ d₂ d₃ d₄ d₅ d₆ d₇ t₀ t₁ t₂ t₃ t₄ t₅ t₆ t₇ = omega arith

-- ---- out again
pub bytes_again : (xs : List ℕ) → Below 256 xs → bytes_of (length xs) (fields 256 xs) ≡ xs
unfolding bytes_of fields
bytes_again [] b = refl
bytes_again (x ∷ xs) b =
    let h : x < 256 = b.0 in
    let low : (fields 256 xs * 256 + x) % 256 ≡ x = omega arith in
    let high : (fields 256 xs * 256 + x) / 256 ≡ fields 256 xs = omega arith in
    rw (low, high) (ap (λ (l : List ℕ). x ∷ l) (bytes_again xs b.1))

-- std's bytes of a word, the lowest first
pub eight_bytes : (w : ℕ) → to_le_bytes w64 w ≡ bytes_of 8 w
unfolding bytes_of
eight_bytes w =
    let b₂ : w / 65536 ≡ w / 256 / 256 = omega arith in
    let b₃ : w / 16777216 ≡ w / 256 / 256 / 256 = omega arith in
    let b₄ : w / 4294967296 ≡ w / 256 / 256 / 256 / 256 = omega arith in
    let b₅ : w / 1099511627776 ≡ w / 256 / 256 / 256 / 256 / 256 = omega arith in
    let b₆ : w / 281474976710656 ≡ w / 256 / 256 / 256 / 256 / 256 / 256 = omega arith in
    let b₇ : w / 72057594037927936 ≡ w / 256 / 256 / 256 / 256 / 256 / 256 / 256 = omega arith in
    cc
