-- How far two numbers are apart: in ℤ, by their signs and sizes.
use mathlib.Core.Path.{◌≡◌, refl, sym, ap, ◌∙◌}
use Prim.Native.Nat.{ℕ, zero, suc, ◌+◌, ◌-◌, ◌*◌, ◌≤◌, ◌<◌}
use native.Mathlib.Nat.{mul_comm, mul-sub, zero-mul}
use native.Mathlib.Omega.{arith}
use mathlib.Core.Bool.{Bool, true, false, not, cond, beq}
use lib.Dec.{T, ltb, ltb→lt, nltb→le}
use lib.IntN.{ℤ, pos, negsuc, neg_ℤ, nat_abs, ◌+ℤ◌, ◌-ℤ◌, ◌*ℤ◌, neg_ℤ-neg_ℤ, neg_ℤ-+ℤ}

-- n, or -n
abbrev pub signed : Bool → ℕ → ℤ
signed true n = neg_ℤ (pos n)
signed false n = pos n

-- |a - b|
abbrev pub apart : ℕ → ℕ → ℕ
apart a b = a - b + (b - a)

-- what lies between a with the sign s and b with the sign t
abbrev pub gap : Bool → Bool → ℕ → ℕ → ℕ
gap s t a b = cond (beq s t) (apart a b) (a + b)

signed_times : (s : Bool) (a c : ℕ) → signed s a *ℤ pos c ≡ signed s (a * c)
signed_times true zero c = ap pos (zero-mul c) ∙ ap (λ (n : ℕ). neg_ℤ (pos n)) (sym (zero-mul c))
signed_times true (suc a) c = refl
signed_times false a c = refl

size_neg : (z : ℤ) → nat_abs (neg_ℤ z) ≡ nat_abs z
size_neg (pos zero) = refl
size_neg (pos (suc n)) = refl
size_neg (negsuc n) = refl

size_minus : (a b : ℕ) → nat_abs (pos a -ℤ pos b) ≡ apart a b
size_minus a zero = omega arith
size_minus a (suc b) = go (ltb a (suc b)) (ltb→lt a (suc b)) (nltb→le a (suc b))
  where
    go : (t : Bool) → (T t → a < suc b) → (T (not t) → suc b ≤ a) → nat_abs (cond t (negsuc (suc b - suc a)) (pos (a - suc b))) ≡ apart a (suc b)
    go true f g = let l = f tt in omega arith
    go false f g = let l = g tt in omega arith

size_of_difference : (s t : Bool) (a b : ℕ) → nat_abs (signed s a -ℤ signed t b) ≡ gap s t a b
size_of_difference true true a b = ap nat_abs (sym (neg_ℤ-+ℤ (pos a) (neg_ℤ (pos b)))) ∙ size_neg (pos a -ℤ pos b) ∙ size_minus a b
size_of_difference true false a b = ap nat_abs (sym (neg_ℤ-+ℤ (pos a) (pos b))) ∙ size_neg (pos (a + b))
size_of_difference false true a b = ap (λ (z : ℤ). nat_abs (pos a +ℤ z)) (neg_ℤ-neg_ℤ (pos b))
size_of_difference false false a b = size_minus a b

-- of a / d and b / e, over d * e
pub size_apart : (s t : Bool) (a d b e : ℕ) → nat_abs (signed s a *ℤ pos e -ℤ signed t b *ℤ pos d) ≡ gap s t (a * e) (b * d)
size_apart s t a d b e = ap (λ (z : ℤ). nat_abs (z -ℤ signed t b *ℤ pos d)) (signed_times s a e) ∙ ap (λ (z : ℤ). nat_abs (signed s (a * e) -ℤ z)) (signed_times t b d) ∙ size_of_difference s t (a * e) (b * d)

-- ---- scaled
pub gap_scaled : (s t : Bool) (a b c : ℕ) → gap s t (a * c) (b * c) ≡ gap s t a b * c
gap_scaled s t a b c = go (beq s t)
  where
    sub_scaled : (x y : ℕ) → x * c - y * c ≡ (x - y) * c
    sub_scaled x y = ap (λ (z : ℕ). z - y * c) (mul_comm x c) ∙ ap (λ (z : ℕ). c * x - z) (mul_comm y c) ∙ sym (mul-sub c x y) ∙ mul_comm c (x - y)

    go : (u : Bool) → cond u (apart (a * c) (b * c)) (a * c + b * c) ≡ cond u (apart a b) (a + b) * c
    go true = ap (λ (z : ℕ). z + (b * c - a * c)) (sub_scaled a b) ∙ ap (λ (z : ℕ). (a - b) * c + z) (sub_scaled b a) ∙ join (a - b) (b - a)
      where
        join : (x y : ℕ) → x * c + y * c ≡ (x + y) * c
        join x y = omega arith
    go false = omega arith
