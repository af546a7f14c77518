-- Eight digits at once: what `eight_digits` computes is the word of the digits.
use mathlib.Core.Path.{◌≡◌, refl, sym, ◌∙◌, ap, ap₂}
use Prim.Native.Nat.{ℕ, zero, suc, ◌+◌, ◌*◌, ◌/◌, ◌%◌, ◌^◌, ◌≤◌, ◌<◌}
use native.Mathlib.Omega.{arith}
use mathlib.Core.List.{List, [], ◌∷◌, ◌++◌}
use lib.Pow.{field, mod-mod-pow}
use mathlib.Core.Bool.{Bool, true, false}
use lib.Dec.{ltb}
use lib.Bits.{bit_and}
use borrow.Author.Tests.{ltb-true, ltb-false}
use lib.ListN.{length}
use Rattle.lines.specs.Put.{over}
use Rattle.lines.specs.Digits.{glyph, digits, hex_of}
use Rattle.lines.specs.Words.{fields, bytes_of}
use Rattle.lines.proofs.Fields.{Below, each_picked, join_bytes, join_halves, six_more, with_letters, bytes_again}
use Rattle.lines.proofs.Over.{length_digits, over_append}

-- ---- the steps, as the code has them
abbrev pub halves : ℕ → ℕ
halves x = x % 65536 * 4294967296 + x / 65536

abbrev pub bytes : ℕ → ℕ
bytes w = bit_and w 0x0000_00ff_0000_00ff * 65536 + bit_and (w / 256) 0x0000_00ff_0000_00ff

abbrev pub half_bytes : ℕ → ℕ
half_bytes w = bit_and w 0x000f_000f_000f_000f * 256 + bit_and (w / 16) 0x000f_000f_000f_000f

abbrev pub glyphs : ℕ → ℕ
glyphs w = w + 0x3030_3030_3030_3030 + bit_and ((w + 0x0606_0606_0606_0606) / 16) 0x0101_0101_0101_0101 * 39

-- ---- what each makes of fields
unshifted : (w : ℕ) → w ≡ w / 1
unshifted w = omega arith

bytes_are : (p q : ℕ) → p < 65536 → q < 65536
    → bytes (fields 4294967296 (p ∷ q ∷ [])) ≡ fields 65536 (p / 256 % 256 ∷ p / 1 % 256 ∷ q / 256 % 256 ∷ q / 1 % 256 ∷ [])
bytes_are p q h k =
    let w = fields 4294967296 (p ∷ q ∷ []) in
    let both : Below 4294967296 (p ∷ q ∷ []) = (omega arith, (omega arith, tt)) in
    ap₂ (λ (low high : ℕ). low * 65536 + high)
    (ap (λ (n : ℕ). bit_and n 0x0000_00ff_0000_00ff) (unshifted w) ∙ each_picked 24 8 1 (λ (high x : ℕ) (b : x < 4294967296). omega arith) (λ (high x : ℕ) (b : x < 4294967296). omega arith) (p ∷ q ∷ []) both)
    (each_picked 24 8 256 (λ (high x : ℕ) (b : x < 4294967296). omega arith) (λ (high x : ℕ) (b : x < 4294967296). omega arith) (p ∷ q ∷ []) both)
    ∙ join_bytes (p / 256 % 256) (p / 1 % 256) (q / 256 % 256) (q / 1 % 256)

half_bytes_are : (a b c d : ℕ) → a < 256 → b < 256 → c < 256 → d < 256
    → half_bytes (fields 65536 (a ∷ b ∷ c ∷ d ∷ []))
    ≡ fields 256 (a / 16 % 16 ∷ a / 1 % 16 ∷ b / 16 % 16 ∷ b / 1 % 16 ∷ c / 16 % 16 ∷ c / 1 % 16 ∷ d / 16 % 16 ∷ d / 1 % 16 ∷ [])
half_bytes_are a b c d ha hb hc hd =
    let four = a ∷ b ∷ c ∷ d ∷ [] in
    let w = fields 65536 four in
    let all : Below 65536 four = (omega arith, (omega arith, (omega arith, (omega arith, tt)))) in
    ap₂ (λ (low high : ℕ). low * 256 + high)
    (ap (λ (n : ℕ). bit_and n 0x000f_000f_000f_000f) (unshifted w) ∙ each_picked 12 4 1 (λ (high x : ℕ) (b : x < 65536). omega arith) (λ (high x : ℕ) (b : x < 65536). omega arith) four all)
    (each_picked 12 4 16 (λ (high x : ℕ) (b : x < 65536). omega arith) (λ (high x : ℕ) (b : x < 65536). omega arith) four all)
    ∙ join_halves (a / 16 % 16) (a / 1 % 16) (b / 16 % 16) (b / 1 % 16) (c / 16 % 16) (c / 1 % 16) (d / 16 % 16) (d / 1 % 16)

halves_are : (p q : ℕ) → q * 4294967296 + p ≡ fields 4294967296 (p ∷ q ∷ [])
unfolding fields
halves_are p q = omega arith

-- the byte of a digit, as it is computed
abbrev glyph_by : ℕ → ℕ
glyph_by d = d + 48 + (d + 6) / 16 % 2 * 39

glyph_by_lem : (d : ℕ) → d < 16 → glyph_by d ≡ glyph d
unfolding glyph
glyph_by_lem d h = by_kind (ltb d 10) refl
  where
    by_kind : (numeral : Bool) → ltb d 10 ≡ numeral → glyph_by d ≡ glyph d
    by_kind true e = let s : d < 10 = ltb-true d 10 e in rw e (omega arith)
    by_kind false e = let s : 10 ≤ d = ltb-false d 10 e in rw e (omega arith)

same_glyph : (d n : ℕ) → d ≡ n → n < 16 → glyph_by d ≡ glyph n
same_glyph d n e h = ap glyph_by e ∙ glyph_by_lem n h

glyphs_are : (d₀ d₁ d₂ d₃ d₄ d₅ d₆ d₇ : ℕ) → Below 16 (d₀ ∷ d₁ ∷ d₂ ∷ d₃ ∷ d₄ ∷ d₅ ∷ d₆ ∷ d₇ ∷ [])
    → glyphs (fields 256 (d₀ ∷ d₁ ∷ d₂ ∷ d₃ ∷ d₄ ∷ d₅ ∷ d₆ ∷ d₇ ∷ []))
    ≡ fields 256 (glyph_by d₀ ∷ glyph_by d₁ ∷ glyph_by d₂ ∷ glyph_by d₃ ∷ glyph_by d₄ ∷ glyph_by d₅ ∷ glyph_by d₆ ∷ glyph_by d₇ ∷ [])
glyphs_are d₀ d₁ d₂ d₃ d₄ d₅ d₆ d₇ b =
    let six = (d₀ + 6) ∷ (d₁ + 6) ∷ (d₂ + 6) ∷ (d₃ + 6) ∷ (d₄ + 6) ∷ (d₅ + 6) ∷ (d₆ + 6) ∷ (d₇ + 6) ∷ [] in
    let all : Below 256 six = (omega (arith, b.0), (omega (arith, b.1.0), (omega (arith, b.1.1.0), (omega (arith, b.1.1.1.0), (omega (arith, b.1.1.1.1.0), (omega (arith, b.1.1.1.1.1.0), (omega (arith, b.1.1.1.1.1.1.0), (omega (arith, b.1.1.1.1.1.1.1.0), tt)))))))) in
    let letters = ap (λ (w : ℕ). bit_and (w / 16) 0x0101_0101_0101_0101) (six_more d₀ d₁ d₂ d₃ d₄ d₅ d₆ d₇)
    ∙ each_picked 7 1 16 (λ (high x : ℕ) (b : x < 256). omega arith) (λ (high x : ℕ) (b : x < 256). omega arith) six all in
    ap (λ (t : ℕ). fields 256 (d₀ ∷ d₁ ∷ d₂ ∷ d₃ ∷ d₄ ∷ d₅ ∷ d₆ ∷ d₇ ∷ []) + 0x3030_3030_3030_3030 + t * 39) letters
    ∙ with_letters d₀ d₁ d₂ d₃ d₄ d₅ d₆ d₇ ((d₀ + 6) / 16 % 2) ((d₁ + 6) / 16 % 2) ((d₂ + 6) / 16 % 2) ((d₃ + 6) / 16 % 2) ((d₄ + 6) / 16 % 2) ((d₅ + 6) / 16 % 2) ((d₆ + 6) / 16 % 2) ((d₇ + 6) / 16 % 2)

-- ---- all of it
-- the four digits of a half, where the steps find them
first_of : (l : ℕ) → l / 256 % 256 / 16 % 16 ≡ l / 16 / 16 / 16 % 16
first_of l = omega arith

second_of : (l : ℕ) → l / 256 % 256 / 1 % 16 ≡ l / 16 / 16 % 16
second_of l = omega arith

third_of : (l : ℕ) → l / 1 % 256 / 16 % 16 ≡ l / 16 % 16
third_of l = omega arith

fourth_of : (l : ℕ) → l / 1 % 256 / 1 % 16 ≡ l % 16
fourth_of l = omega arith

-- and the same in the lower half of a number
low_first : (x : ℕ) → x % 65536 / 16 / 16 / 16 % 16 ≡ x / 16 / 16 / 16 % 16
low_first x = omega arith

low_second : (x : ℕ) → x % 65536 / 16 / 16 % 16 ≡ x / 16 / 16 % 16
low_second x = omega arith

low_third : (x : ℕ) → x % 65536 / 16 % 16 ≡ x / 16 % 16
low_third x = omega arith

low_fourth : (x : ℕ) → x % 65536 % 16 ≡ x % 16
low_fourth x = omega arith

upper : (x : ℕ) → x / 65536 ≡ x / 16 / 16 / 16 / 16
upper x = omega arith

a_digit : (n : ℕ) → n % 16 < 16
a_digit n = omega arith

pub eight_digits : (x : ℕ) → x < 4294967296 → glyphs (half_bytes (bytes (halves x))) ≡ fields 256 (digits 16 8 x)
unfolding digits
eight_digits x h =
    let start : halves x ≡ fields 4294967296 (x / 65536 ∷ x % 65536 ∷ []) = halves_are (x / 65536) (x % 65536) in
    let swapped = ap bytes start ∙ bytes_are (x / 65536) (x % 65536) (omega arith) (omega arith) in
    let split = ap half_bytes swapped ∙ half_bytes_are (x / 65536 / 256 % 256) (x / 65536 / 1 % 256) (x % 65536 / 256 % 256) (x % 65536 / 1 % 256) (omega arith) (omega arith) (omega arith) (omega arith) in
    let put = ap glyphs split ∙ glyphs_are (x / 65536 / 256 % 256 / 16 % 16) (x / 65536 / 256 % 256 / 1 % 16) (x / 65536 / 1 % 256 / 16 % 16) (x / 65536 / 1 % 256 / 1 % 16) (x % 65536 / 256 % 256 / 16 % 16) (x % 65536 / 256 % 256 / 1 % 16) (x % 65536 / 1 % 256 / 16 % 16) (x % 65536 / 1 % 256 / 1 % 16) (omega arith, (omega arith, (omega arith, (omega arith, (omega arith, (omega arith, (omega arith, (omega arith, tt)))))))) in
    let e₀ : glyph_by (x / 65536 / 256 % 256 / 16 % 16) ≡ glyph (x / 16 / 16 / 16 / 16 / 16 / 16 / 16 % 16) = same_glyph _ _ (first_of (x / 65536) ∙ ap (λ (p : ℕ). p / 16 / 16 / 16 % 16) (upper x)) (a_digit _) in
    let e₁ : glyph_by (x / 65536 / 256 % 256 / 1 % 16) ≡ glyph (x / 16 / 16 / 16 / 16 / 16 / 16 % 16) = same_glyph _ _ (second_of (x / 65536) ∙ ap (λ (p : ℕ). p / 16 / 16 % 16) (upper x)) (a_digit _) in
    let e₂ : glyph_by (x / 65536 / 1 % 256 / 16 % 16) ≡ glyph (x / 16 / 16 / 16 / 16 / 16 % 16) = same_glyph _ _ (third_of (x / 65536) ∙ ap (λ (p : ℕ). p / 16 % 16) (upper x)) (a_digit _) in
    let e₃ : glyph_by (x / 65536 / 1 % 256 / 1 % 16) ≡ glyph (x / 16 / 16 / 16 / 16 % 16) = same_glyph _ _ (fourth_of (x / 65536) ∙ ap (λ (p : ℕ). p % 16) (upper x)) (a_digit _) in
    let e₄ : glyph_by (x % 65536 / 256 % 256 / 16 % 16) ≡ glyph (x / 16 / 16 / 16 % 16) = same_glyph _ _ (first_of (x % 65536) ∙ low_first x) (a_digit _) in
    let e₅ : glyph_by (x % 65536 / 256 % 256 / 1 % 16) ≡ glyph (x / 16 / 16 % 16) = same_glyph _ _ (second_of (x % 65536) ∙ low_second x) (a_digit _) in
    let e₆ : glyph_by (x % 65536 / 1 % 256 / 16 % 16) ≡ glyph (x / 16 % 16) = same_glyph _ _ (third_of (x % 65536) ∙ low_third x) (a_digit _) in
    let e₇ : glyph_by (x % 65536 / 1 % 256 / 1 % 16) ≡ glyph (x % 16) = same_glyph _ _ (fourth_of (x % 65536) ∙ low_fourth x) (a_digit _) in
    put ∙ cc

-- ---- and sixteen are twice eight
-- digits do not hang on what stands before them
low_digits : (k n : ℕ) → digits 16 k (n % 2 ^ (4 * k)) ≡ digits 16 k n
unfolding digits
low_digits zero n = refl
low_digits (suc k) n =
    let e : 4 * suc k ≡ 4 * k + 4 = omega arith in
    rw e (ap₂ (λ (front : List ℕ) (d : ℕ). front ++ (glyph d ∷ [])) (ap (digits 16 k) (field n (4 * k) 4) ∙ low_digits k (n / 16)) (mod-mod-pow n (4 * k) 4))

upper_half : (x : ℕ) → x / 4294967296 ≡ x / 16 / 16 / 16 / 16 / 16 / 16 / 16 / 16
upper_half x = omega arith

pub twice_eight : (x : ℕ) → hex_of x ≡ digits 16 8 (x / 4294967296) ++ digits 16 8 (x % 4294967296)
unfolding hex_of digits
twice_eight x =
    let split : digits 16 16 x ≡ digits 16 8 (x / 4294967296) ++ digits 16 8 x = rw (upper_half x) refl in
    split ∙ ap (λ (l : List ℕ). digits 16 8 (x / 4294967296) ++ l) (sym (low_digits 8 x))

-- a digit's byte is a byte
below_append : (xs ys : List ℕ) → Below 256 xs → Below 256 ys → Below 256 (xs ++ ys)
below_append [] ys b c = c
below_append (x ∷ xs) ys b c = (b.0, below_append xs ys b.1 c)

digits_below : (k n : ℕ) → Below 256 (digits 16 k n)
unfolding digits
digits_below zero n = tt
digits_below (suc k) n =
    let h : glyph (n % 16) < 256 = rw (← glyph_by_lem (n % 16) (a_digit n)) (omega arith) in
    below_append (digits 16 k (n / 16)) (glyph (n % 16) ∷ []) (digits_below k (n / 16)) (h, tt)

pub digits_again : (k n : ℕ) → bytes_of k (fields 256 (digits 16 k n)) ≡ digits 16 k n
digits_again k n =
    ap (λ (m : ℕ). bytes_of m (fields 256 (digits 16 k n))) (sym (length_digits 16 k n)) ∙ bytes_again (digits 16 k n) (digits_below k n)

pub twice_over : (x at : ℕ) (upper lower l : List ℕ) → upper ≡ digits 16 8 (x / 4294967296) → lower ≡ digits 16 8 (x % 4294967296)
    → over (at + 8) lower (over at upper l) ≡ over at (hex_of x) l
twice_over x at upper lower l e d =
    let n : at + length (digits 16 8 (x / 4294967296)) ≡ at + 8 = ap (λ (k : ℕ). at + k) (length_digits 16 8 (x / 4294967296)) in
    ap₂ (λ (u v : List ℕ). over (at + 8) v (over at u l)) e d
    ∙ ap (λ (k : ℕ). over k (digits 16 8 (x % 4294967296)) (over at (digits 16 8 (x / 4294967296)) l)) (sym n)
    ∙ sym (ap (λ (bytes : List ℕ). over at bytes l) (twice_eight x) ∙ over_append at (digits 16 8 (x / 4294967296)) (digits 16 8 (x % 4294967296)) l)
