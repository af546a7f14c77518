-- Bytes put over a list, in parts and in any order.
use mathlib.Core.Path.{◌≡◌, refl, sym, ◌∙◌, ap}
use Prim.Native.Nat.{ℕ, zero, suc, ◌+◌, ◌-◌, ◌/◌, ◌%◌, ◌≤◌, ◌<◌}
use native.Mathlib.Omega.{arith}
use mathlib.Core.List.{List, [], ◌∷◌, ◌++◌, append_assoc}
use Rattle.std.proofs.lemmas.List.{take-append-drop, take_more_set, drop-set-lt, drop-drop}
use borrow.Rule.Slice.PartMut.{post_of}
use mathlib.Core.Bool.{true, false}
use lib.Dec.{leb}
use lib.ListN.{length, take, drop, set, length-set, length-append}
use lib.Seq.{set_comm}
use borrow.Author.Tests.{lt-ltb}
use Rattle.lines.specs.Put.{over, put, after}
use Rattle.lines.specs.Digits.{glyph, digits, hex_of, places, decimal_of}

pub length_over : (at : ℕ) (bytes l : List ℕ) → length (over at bytes l) ≡ length l
unfolding over
length_over at [] l = refl
length_over at (b ∷ bytes) l = length_over (suc at) bytes (set l at b) ∙ length-set l at b

-- what is before them, they, and what is behind them
pub over_part : (at : ℕ) (bytes l : List ℕ) → at + length bytes ≤ length l → over at bytes l ≡ take at l ++ (bytes ++ drop (at + length bytes) l)
unfolding over
over_part at [] l h = let e : at + 0 ≡ at = omega arith in rw e (sym (take-append-drop at l))
over_part at (b ∷ bytes) l h =
    let t : at < length l = omega arith in
    let r : suc at + length bytes ≤ length (set l at b) = omega (arith, length-set l at b) in
    let e : suc at + length bytes ≡ at + suc (length bytes) = omega arith in
    let d : at < at + suc (length bytes) = omega arith in
    let n : at + 1 ≡ suc at = omega arith in
    over_part (suc at) bytes (set l at b) r
    ∙ rw (e, drop-set-lt (at + suc (length bytes)) l at b d, ← n, take_more_set l at b t, append_assoc) refl

pub over_middle : (at k : ℕ) (bytes part l : List ℕ) → part ≡ bytes → length bytes ≡ k → at + k ≤ length l
    → take at l ++ (part ++ post_of at (at + k - at) l) ≡ over at bytes l
over_middle at k bytes part l e n h =
    let j : at + (at + k - at) ≡ at + length bytes = omega arith in
    rw (e, over_part at bytes l (omega arith), ← j) (ap (λ (t : List ℕ). take at l ++ (bytes ++ t)) (drop-drop (at + k - at) at l))

-- one list of bytes after another
pub over_append : (at : ℕ) (xs ys l : List ℕ) → over at (xs ++ ys) l ≡ over (at + length xs) ys (over at xs l)
unfolding over
over_append at [] ys l = let e : at ≡ at + 0 = omega arith in ap (λ (k : ℕ). over k ys l) e
over_append at (x ∷ xs) ys l =
    let e : suc at + length xs ≡ at + suc (length xs) = omega arith in
    over_append (suc at) xs ys (set l at x) ∙ ap (λ (k : ℕ). over k ys (over (suc at) xs (set l at x))) e

-- a byte behind them may come first
pub over_set : (at : ℕ) (bytes l : List ℕ) (i b : ℕ) → at + length bytes ≤ i → over at bytes (set l i b) ≡ set (over at bytes l) i b
unfolding over
over_set at [] l i b h = refl
over_set at (x ∷ bytes) l i b h =
    ap (over (suc at) bytes) (set_comm l i at b x (λ (z : i ≡ at). omega arith))
    ∙ over_set (suc at) bytes (set l at x) i b (omega arith)

pub length_digits : (base k n : ℕ) → length (digits base k n) ≡ k
unfolding digits
length_digits base zero n = refl
length_digits base (suc k) n =
    let e : k + 1 ≡ suc k = omega arith in
    length-append (digits base k (n / base)) (glyph (n % base) ∷ []) ∙ ap (λ (j : ℕ). j + 1) (length_digits base k (n / base)) ∙ e

pub one_over : (i j b : ℕ) (l : List ℕ) → i ≡ j → over i (b ∷ []) l ≡ set l j b
unfolding over
one_over i j b l e = ap (λ (k : ℕ). set l k b) e

pub length_hex : (x : ℕ) → length (hex_of x) ≡ 16
unfolding hex_of
length_hex x = length_digits 16 16 x

pub length_decimal : (n : ℕ) → length (decimal_of n) ≡ places 19 n
unfolding decimal_of
length_decimal n = length_digits 10 (places 19 n) n

-- ---- decimals, the last digit first
numeral : (n : ℕ) → 48 + n % 10 ≡ glyph (n % 10)
unfolding glyph
numeral n = let h : n % 10 < 10 = omega arith in rw (lt-ltb _ _ h) refl

last_first : (k n at : ℕ) (l : List ℕ)
    → over at (digits 10 k (n / 10)) (set l (at + k) (glyph (n % 10))) ≡ over at (digits 10 (suc k) n) l
unfolding digits
last_first k n at l =
    let front = digits 10 k (n / 10) in
    let last = glyph (n % 10) in
    let e : at + length front ≡ at + k = ap (λ (j : ℕ). at + j) (length_digits 10 k (n / 10)) in
    over_set at front l (at + k) last (omega (arith, e))
    ∙ sym (over_append at front (last ∷ []) l ∙ one_over (at + length front) (at + k) last (over at front l) e)

-- the same as the loop has it, which counts down from k
pub one_turn : (k n at : ℕ) (l : List ℕ) → 0 < k
    → over at (digits 10 (k - 1) (n / 10)) (set l (at + (k - 1)) (48 + n % 10)) ≡ over at (digits 10 k n) l
one_turn k n at l h =
    let d : suc (k - 1) ≡ k = omega arith in
    ap (λ (x : ℕ). over at (digits 10 (k - 1) (n / 10)) (set l (at + (k - 1)) x)) (numeral n)
    ∙ last_first (k - 1) n at l
    ∙ ap (λ (j : ℕ). over at (digits 10 j n) l) d

-- when none is left
pub none_left : (k n at : ℕ) (l : List ℕ) → k ≡ 0 → l ≡ over at (digits 10 k n) l
unfolding over digits
none_left k n at l e = sym (ap (λ (j : ℕ). over at (digits 10 j n) l) e)

-- ---- k bytes, with and without room
module _ (bytes : List ℕ) (k at : ℕ) (l : List ℕ) (e : length bytes ≡ k) where
  pub put_all : leb (at + k) (length l) ≡ true → put bytes at l ≡ over at bytes l
  unfolding put
  put_all h = rw (e, h) refl

  pub put_none : leb (at + k) (length l) ≡ false → put bytes at l ≡ l
  unfolding put
  put_none h = rw (e, h) refl

  pub after_all : leb (at + k) (length l) ≡ true → after bytes at l ≡ at + k
  unfolding after
  after_all h = rw (e, h) refl

  pub after_none : leb (at + k) (length l) ≡ false → after bytes at l ≡ at
  unfolding after
  after_none h = rw (e, h) refl
