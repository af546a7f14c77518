-- Lines put in parts: the number, the floats, the newline.
use mathlib.Core.Path.{◌≡◌, refl, sym, ◌∙◌, ap}
use Prim.Native.Nat.{ℕ, ◌+◌, ◌*◌, ◌≤◌}
use native.Mathlib.Omega.{arith}
use mathlib.Core.List.{List, [], ◌∷◌, ◌++◌}
use lib.Ieee.{Float}
use lib.ListN.{length, drop, set, length-append, length-drop}
use lib.Seq.{length-take-le}
use Rattle.lines.specs.Put.{over}
use Rattle.lines.specs.Digits.{digits, places, decimal_of}
use Rattle.lines.specs.Lines.{floats_of, sample_line, refusal_line, ten_from}
use Rattle.lines.proofs.Over.{length_decimal, over_append, one_over}
use Rattle.lines.proofs.Floats.{length_floats}

-- the number, then the bytes behind it
number_over : (n k at : ℕ) (bytes l : List ℕ) → k ≡ places 19 n
    → over (at + k) bytes (over at (digits 10 k n) l) ≡ over at (decimal_of n ++ bytes) l
unfolding decimal_of
number_over n k at bytes l e =
    let d : length (decimal_of n) ≡ k = length_decimal n ∙ sym e in
    ap (λ (j : ℕ). over (at + k) bytes (over at (digits 10 j n) l)) e
    ∙ ap (λ (j : ℕ). over (at + j) bytes (over at (decimal_of n) l)) (sym d)
    ∙ sym (over_append at (decimal_of n) bytes l)

pub refusal_over : (n k at : ℕ) (l : List ℕ) → k ≡ places 19 n → set (over at (digits 10 k n) l) (at + k) 10 ≡ over at (refusal_line n) l
unfolding refusal_line
refusal_over n k at l e = sym (one_over (at + k) (at + k) 10 (over at (digits 10 k n) l) refl) ∙ number_over n k at (10 ∷ []) l e

pub length_refusal : (n k : ℕ) → k ≡ places 19 n → length (refusal_line n) ≡ k + 1
unfolding refusal_line
length_refusal n k e = length-append (decimal_of n) (10 ∷ []) ∙ ap (λ (j : ℕ). j + 1) (length_decimal n ∙ sym e)

-- ---- with ten floats
length_ten : (numbers : List Float) (first : ℕ) → first + 10 ≤ length numbers → length (ten_from first numbers) ≡ 10
unfolding ten_from
length_ten numbers first h = length-take-le 10 (drop first numbers) (omega (arith, length-drop first numbers))

length_ten_floats : (numbers : List Float) (first : ℕ) → first + 10 ≤ length numbers → length (floats_of (ten_from first numbers)) ≡ 170
length_ten_floats numbers first h = length_floats (ten_from first numbers) ∙ ap (λ (j : ℕ). 17 * j) (length_ten numbers first h)

pub sample_over : (n k at : ℕ) (numbers : List Float) (first : ℕ) (l : List ℕ) → k ≡ places 19 n → first + 10 ≤ length numbers
    → set (over (at + k) (floats_of (ten_from first numbers)) (over at (digits 10 k n) l)) (at + k + 170) 10
    ≡ over at (sample_line n (ten_from first numbers)) l
unfolding sample_line
sample_over n k at numbers first l e h =
    let floats = floats_of (ten_from first numbers) in
    let number = over at (digits 10 k n) l in
    let d : at + k + length floats ≡ at + k + 170 = ap (λ (j : ℕ). at + k + j) (length_ten_floats numbers first h) in
    sym (one_over (at + k + length floats) (at + k + 170) 10 (over (at + k) floats number) d)
    ∙ sym (over_append (at + k) floats (10 ∷ []) number)
    ∙ number_over n k at (floats ++ (10 ∷ [])) l e

pub length_sample : (n k : ℕ) (numbers : List Float) (first : ℕ) → k ≡ places 19 n → first + 10 ≤ length numbers
    → length (sample_line n (ten_from first numbers)) ≡ k + 171
unfolding sample_line
length_sample n k numbers first e h =
    let floats = floats_of (ten_from first numbers) in
    omega (arith, length-append (decimal_of n) (floats ++ (10 ∷ [])), length-append floats (10 ∷ []), length_ten_floats numbers first h, length_decimal n)
