-- The laws with an integer for the whole number, and the two readings of "x is the whole number z".
use mathlib.Core.Path.{◌≡◌, refl, sym, ◌∙◌, subst}
use mathlib.Core.Logic.{inl, inr, ⊎_elim}
use Prim.Native.Nat.{ℕ, zero, suc, ◌+◌, ◌-◌, ◌*◌, ◌^◌, ◌≤◌, ◌<◌, zero-le}
use native.Mathlib.Omega.{arith}
use mathlib.Core.Bool.{Bool, true, false, not, cond}
use lib.IntN.{ℤ, pos, negsuc, neg_ℤ, nat_abs, ◌+ℤ◌, ◌-ℤ◌, ◌*ℤ◌, sub_ℕ}
use lib.Dec.{T, ltb, leb, lt→ltb, le→leb, ltb→lt, leb→le, nltb→le}
use lib.Signed.{lt_z, le_z}
use lib.Ieee.{Float, binary64, neg, add, sub, mul, lt, le, of_int, round}
use Rattle.triple.specs.Arithmetic.{nought}
use Rattle.triple.specs.Size.{absolute}
use Rattle.whole.specs.Whole.{IsWhole}
use Rattle.whole.proofs.Scale.{bool_ext}
use Rattle.whole.proofs.Exact.{Is, of_round, move, add_whole, neg_whole, mul_whole, lt_whole, le_whole, nought_whole, absolute_whole, is_unique, is_zero}

abbrev pub plus : ℤ → ℕ
plus (pos n) = n
plus (negsuc n) = 0

abbrev pub less : ℤ → ℕ
less (pos n) = 0
less (negsuc n) = suc n

-- x is z
abbrev pub Holds : Float → ℤ → Type 0
Holds x z = Is x (plus z) (less z)

-- |z| ≤ b
abbrev pub Within : ℕ → ℤ → Type 0
Within b z = (plus z ≤ b) × (less z ≤ b)

pub within : (n : ℕ) (z : ℤ) → nat_abs z ≤ n → Within n z
within n (pos m) h = (h, zero-le)
within n (negsuc m) h = (zero-le, h)

pub wider : (m n : ℕ) (z : ℤ) → m ≤ n → Within m z → Within n z
wider m n z l h = let a = h.0 in let b = h.1 in (omega arith, omega arith)

pub size_within : (n : ℕ) (z : ℤ) → Within n z → nat_abs z ≤ n
size_within n (pos m) h = h.0
size_within n (negsuc m) h = h.1

-- the whole number A - B
pub between : (N A B : ℕ) (z : ℤ) → A + less z ≡ plus z + B → A ≤ B + N → B ≤ A + N → Within N z
between N A B (pos n) e h k = (omega arith, zero-le)
between N A B (negsuc n) e h k = (zero-le, omega arith)

pub whole_of_int : (z : ℤ) → Within (2 ^ 53) z → Holds (of_int binary64 z) z
unfolding of_int
whole_of_int (pos n) h = of_round false n n 0 h.0 (omega arith)
whole_of_int (negsuc n) h = of_round true (suc n) 0 (suc n) h.1 (omega arith)

-- ---- the parts of a sum, of a negative and of a product
subℕ-parts : (a b : ℕ) → a + less (sub_ℕ a b) ≡ plus (sub_ℕ a b) + b
subℕ-parts a b = go (ltb a b) (ltb→lt a b) (nltb→le a b)
  where
    go : (c : Bool) → (T c → a < b) → (T (not c) → b ≤ a) → a + less (cond c (negsuc (b - suc a)) (pos (a - b))) ≡ plus (cond c (negsuc (b - suc a)) (pos (a - b))) + b
    go true f g = let l = f tt in omega arith
    go false f g = let l = g tt in omega arith

pub sum_parts : (a b : ℤ) → plus a + plus b + less (a +ℤ b) ≡ plus (a +ℤ b) + (less a + less b)
sum_parts (pos a) (pos b) = omega arith
sum_parts (pos a) (negsuc b) = omega (arith, subℕ-parts a (suc b))
sum_parts (negsuc a) (pos b) = omega (arith, subℕ-parts b (suc a))
sum_parts (negsuc a) (negsuc b) = omega arith

pub neg_parts : (a : ℤ) → (plus (neg_ℤ a) ≡ less a) × (less (neg_ℤ a) ≡ plus a)
neg_parts (pos zero) = (refl, refl)
neg_parts (pos (suc n)) = (refl, refl)
neg_parts (negsuc n) = (refl, refl)

pub mul_parts : (a b : ℤ) → plus a * plus b + less a * less b + less (a *ℤ b) ≡ plus (a *ℤ b) + (plus a * less b + less a * plus b)
mul_parts (pos a) (pos b) = omega arith
mul_parts (pos a) (negsuc b) = omega (arith, neg_parts (pos (a * suc b)))
mul_parts (negsuc a) (pos b) = omega (arith, neg_parts (pos (suc a * b)))
mul_parts (negsuc a) (negsuc b) = omega arith

pub lt_parts : (a b : ℤ) → ltb (plus a + less b) (plus b + less a) ≡ lt_z a b
lt_parts (pos a) (pos b) = bool_ext (ltb (a + 0) (b + 0)) (ltb a b) (λ (t : T (ltb (a + 0) (b + 0))). omega (arith, ltb→lt, lt→ltb)) (λ (t : T (ltb a b)). omega (arith, ltb→lt, lt→ltb))
lt_parts (pos a) (negsuc b) = bool_ext (ltb (a + suc b) 0) false (λ (t : T (ltb (a + suc b) 0)). omega (arith, ltb→lt)) (λ (t : ⊥). absurd t)
lt_parts (negsuc a) (pos b) = bool_ext (ltb 0 (b + suc a)) true (λ _. tt) (λ _. omega (arith, lt→ltb))
lt_parts (negsuc a) (negsuc b) = bool_ext (ltb (0 + suc b) (0 + suc a)) (ltb b a) (λ (t : T (ltb (0 + suc b) (0 + suc a))). omega (arith, ltb→lt, lt→ltb)) (λ (t : T (ltb b a)). omega (arith, ltb→lt, lt→ltb))

pub le_parts : (a b : ℤ) → leb (plus a + less b) (plus b + less a) ≡ le_z a b
le_parts (pos a) (pos b) = bool_ext (leb (a + 0) (b + 0)) (leb a b) (λ (t : T (leb (a + 0) (b + 0))). omega (arith, leb→le, le→leb)) (λ (t : T (leb a b)). omega (arith, leb→le, le→leb))
le_parts (pos a) (negsuc b) = bool_ext (leb (a + suc b) 0) false (λ (t : T (leb (a + suc b) 0)). omega (arith, leb→le)) (λ (t : ⊥). absurd t)
le_parts (negsuc a) (pos b) = bool_ext (leb 0 (b + suc a)) true (λ _. tt) (λ _. omega (arith, le→leb))
le_parts (negsuc a) (negsuc b) = bool_ext (leb (0 + suc b) (0 + suc a)) (leb b a) (λ (t : T (leb (0 + suc b) (0 + suc a))). omega (arith, leb→le, le→leb)) (λ (t : T (leb b a)). omega (arith, leb→le, le→leb))

-- ---- the operations
pub add_int : {x y : Float} (a b : ℤ) → Holds x a → Holds y b → Within (2 ^ 53) (a +ℤ b) → Holds (add binary64 x y) (a +ℤ b)
add_int a b X Y w = let e = sum_parts a b in move (plus (a +ℤ b)) (less (a +ℤ b)) (add_whole X Y (omega arith) (omega arith)) e

pub neg_int : {x : Float} (a : ℤ) → Holds x a → Holds (neg x) (neg_ℤ a)
neg_int a X = let e = neg_parts a in move (plus (neg_ℤ a)) (less (neg_ℤ a)) (neg_whole X) (omega arith)

pub sub_int : {x y : Float} (a b : ℤ) → Holds x a → Holds y b → Within (2 ^ 53) (a -ℤ b) → Holds (sub binary64 x y) (a -ℤ b)
unfolding sub
sub_int a b X Y w = add_int a (neg_ℤ b) X (neg_int b Y) w

pub mul_int : {x y : Float} (A B : ℕ) (a b : ℤ) → Holds x a → Holds y b → Within A a → Within B b → A * B ≤ 2 ^ 53 → Holds (mul binary64 x y) (a *ℤ b)
mul_int A B a b X Y v w h = move (plus (a *ℤ b)) (less (a *ℤ b)) (mul_whole A B X Y (omega arith) (omega arith) (omega arith) (omega arith) h) (mul_parts a b)

pub lt_int : {x y : Float} (a b : ℤ) → Holds x a → Holds y b → lt x y ≡ lt_z a b
lt_int a b X Y = lt_whole X Y ∙ lt_parts a b

pub le_int : {x y : Float} (a b : ℤ) → Holds x a → Holds y b → le x y ≡ le_z a b
le_int a b X Y = le_whole X Y ∙ le_parts a b

pub abs_int : {x : Float} (a : ℤ) → Holds x a → Holds (absolute x) (pos (nat_abs a))
abs_int (pos a) X = move a 0 (absolute_whole X) (omega arith)
abs_int (negsuc a) X = move (suc a) 0 (absolute_whole X) (omega arith)

-- ---- the reading of specs/Whole, and back
pub read : {x : Float} (z : ℤ) → Within (2 ^ 53) z → IsWhole x z → Holds x z
read {x} z w (inl e) = subst (λ (y : Float). Holds y z) (sym e) (whole_of_int z w)
read {x} z w (inr e) = subst (λ (y : Float). Holds y z) (sym e.1) (subst (λ (v : ℤ). Holds (neg nought) v) (sym e.0) (neg_whole nought_whole))

zero_is : nought ≡ of_int binary64 (pos 0)
unfolding of_int round
zero_is = refl

pub write : {x : Float} (z : ℤ) → Within (2 ^ 53) z → Holds x z → IsWhole x z
write {x} (pos zero) w X = ⊎_elim (λ (e : x ≡ nought). inl (e ∙ zero_is)) (λ (e : x ≡ neg nought). inr (refl, e)) (is_zero X)
write {x} (pos (suc n)) w X = inl (is_unique X (whole_of_int (pos (suc n)) w) (λ (e : suc n ≡ 0). omega arith))
write {x} (negsuc n) w X = inl (is_unique X (whole_of_int (negsuc n) w) (λ (e : 0 ≡ suc n). omega arith))
