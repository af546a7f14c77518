-- Floats put one after another.
use mathlib.Core.Path.{◌≡◌, refl, sym, ◌∙◌, ap}
use Prim.Native.Nat.{ℕ, suc, ◌+◌, ◌-◌, ◌*◌, ◌≤◌, ◌<◌}
use native.Mathlib.Omega.{arith}
use mathlib.Core.List.{List, [], ◌∷◌}
use lib.Ieee.{Float, nan, to_bits, binary64}
use lib.ListN.{length, get_or, take, drop, set, length-append}
use Rattle.lines.specs.Put.{over}
use Rattle.lines.specs.Digits.{hex_of, float_hex}
use Rattle.lines.specs.Lines.{floats_of, ten_from}
use lib.Seq.{drop-cons}
use Rattle.std.proofs.lemmas.List.{drop_all}
use Rattle.lines.proofs.Over.{length_hex, over_append}

length_float : (x : Float) → length (float_hex x) ≡ 16
unfolding float_hex
length_float x = length_hex (to_bits binary64 x)

-- k floats take 17 k bytes
pub length_floats : (xs : List Float) → length (floats_of xs) ≡ 17 * length xs
unfolding floats_of
length_floats [] = refl
length_floats (x ∷ xs) =
    let f = length_float x in
    let r = length_floats xs in
    let a = length-append (float_hex x) (floats_of xs) in
    omega arith

-- a float and those behind it
front_float : (x : Float) (xs : List Float) (at : ℕ) (l : List ℕ)
    → over (at + 17) (floats_of xs) (over (suc at) (float_hex x) (set l at 32)) ≡ over at (floats_of (x ∷ xs)) l
unfolding floats_of over
front_float x xs at l =
    let e : at + suc (length (float_hex x)) ≡ at + 17 = omega (arith, length_float x) in
    sym (over_append at (32 ∷ float_hex x) (floats_of xs) l ∙ ap (λ (k : ℕ). over k (floats_of xs) (over (suc at) (float_hex x) (set l at 32))) e)

-- the same as a loop has it, with i of them behind it
pub next_float : (xs : List Float) (i at bits : ℕ) (l : List ℕ) → i < length xs → bits ≡ to_bits binary64 (get_or xs i nan)
    → over (at + 17 * (i + 1)) (floats_of (drop (i + 1) xs)) (over (at + 17 * i + 1) (hex_of bits) (set l (at + 17 * i) 32))
    ≡ over (at + 17 * i) (floats_of (drop i xs)) l
unfolding float_hex
next_float xs i at bits l h e =
    let e₁ : at + 17 * (i + 1) ≡ at + 17 * i + 17 = omega arith in
    let e₂ : at + 17 * i + 1 ≡ suc (at + 17 * i) = omega arith in
    let e₃ : i + 1 ≡ suc i = omega arith in
    rw (e₁, e₂, e₃, e, drop-cons xs i nan h) (front_float (get_or xs i nan) (drop (suc i) xs) (at + 17 * i) l)

-- none of them, and all
pub first_floats : (xs : List Float) (at : ℕ) (l : List ℕ) → over (at + 17 * 0) (floats_of xs) l ≡ over at (floats_of xs) l
first_floats xs at l = let e : at + 17 * 0 ≡ at = omega arith in rw e refl

pub no_float_left : (xs : List Float) (i at : ℕ) (l : List ℕ) → length xs ≤ i → over at (floats_of (drop i xs)) l ≡ l
unfolding floats_of over
no_float_left xs i at l h = rw (drop_all i xs h) refl

pub ten_are : (numbers : List Float) (first : ℕ) → take (first + 10 - first) (drop first numbers) ≡ ten_from first numbers
unfolding ten_from
ten_are numbers first = let e : first + 10 - first ≡ 10 = omega arith in rw e refl
