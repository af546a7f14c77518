-- Whole numbers counted in a direction: with d false x is p - q, with d true it is q - p. One law then serves forward and backward.
use mathlib.Core.Path.{◌≡◌, ◌∙◌}
use Prim.Native.Nat.{ℕ, ◌+◌, ◌-◌, ◌*◌, ◌^◌, ◌≤◌, ◌<◌, min, max}
use native.Mathlib.Omega.{arith}
use mathlib.Core.Bool.{Bool, true, false, cond}
use lib.Dec.{ltb}
use lib.IntN.{pos}
use lib.Ieee.{Float, binary64, round, neg, add, sub, mul, div, lt, eq, of_int}
use borrow.Author.Tests.{ne_eqb}
use Rattle.triple.specs.Arithmetic.{nought}
use Rattle.triple.specs.Size.{absolute}
use Rattle.whole.proofs.Exact.{Is, move, add_whole, sub_whole, mul_whole, mul_plus, mul_minus, eq_whole, nought_whole}
use Rattle.whole.proofs.Quotient.{div_far, below_eight_steps}
use Rattle.whole.proofs.Short.{short_is}

pub record Along (d : Bool) (x : Float) (p q : ℕ) : Type 0 where
  pub is : Is x (cond d q p) (cond d p q)

pub move_along : {d : Bool} {x : Float} {p q : ℕ} (p' q' : ℕ) → Along d x p q → p + q' ≡ p' + q → Along d x p' q'
move_along {d = false} p' q' X e = record { is = move p' q' X.is e }
move_along {d = true} p' q' X e = record { is = move q' p' X.is (omega arith) }

pub add_along : {d : Bool} {x y : Float} {p q p' q' : ℕ} → Along d x p q → Along d y p' q' → p + p' ≤ q + q' + 2 ^ 53 → q + q' ≤ p + p' + 2 ^ 53 → Along d (add binary64 x y) (p + p') (q + q')
add_along {d = false} X Y h k = record { is = add_whole X.is Y.is h k }
add_along {d = true} X Y h k = record { is = add_whole X.is Y.is k h }

pub sub_along : {d : Bool} {x y : Float} {p q p' q' : ℕ} → Along d x p q → Along d y p' q' → p + q' ≤ q + p' + 2 ^ 53 → q + p' ≤ p + q' + 2 ^ 53 → Along d (sub binary64 x y) (p + q') (q + p')
sub_along {d = false} X Y h k = record { is = sub_whole X.is Y.is h k }
sub_along {d = true} X Y h k = record { is = sub_whole X.is Y.is k h }

-- x times the direction, 1 or -1
pub mul_along : {d : Bool} {x y : Float} {p q : ℕ} → Along d x p q → Along d y 1 0 → p ≤ q + 2 ^ 53 → q ≤ p + 2 ^ 53 → Is (mul binary64 x y) p q
mul_along {d = false} X Y h k = mul_plus X.is Y.is h k
mul_along {d = true} X Y h k = mul_minus X.is Y.is k h

-- a size, sent in the direction
pub sent_along : {d : Bool} {x y : Float} {b : ℕ} → Is x b 0 → Along d y 1 0 → b ≤ 2 ^ 53 → Along d (mul binary64 x y) b 0
sent_along {d = false} X Y h = record { is = mul_plus X Y.is (omega arith) (omega arith) }
sent_along {d = true} X Y h = record { is = mul_minus X Y.is (omega arith) (omega arith) }

-- a number of steps
pub times_along : {d : Bool} {x y : Float} {n b : ℕ} (N B : ℕ) → Is x n 0 → Along d y b 0 → n ≤ N → b ≤ B → N * B ≤ 2 ^ 53 → Along d (mul binary64 x y) (n * b) 0
times_along {d = false} {n = n} {b = b} N B X Y h k l = record { is = move (n * b) 0 (mul_whole N B X Y.is (omega arith) (omega arith) (omega arith) (omega arith) l) (omega arith) }
times_along {d = true} {n = n} {b = b} N B X Y h k l = record { is = move 0 (n * b) (mul_whole N B X Y.is (omega arith) (omega arith) (omega arith) (omega arith) l) (omega arith) }

-- ---- the tests
pub short_along : {d : Bool} {x y : Float} {p q b : ℕ} → Along d x p q → Along d y b 0 → q ≤ p → p ≤ q + 2 ^ 53 → 0 < b → b ≤ 1_000_000_000
    → lt (sub binary64 (absolute x) (absolute y)) (mul binary64 (neg (round binary64 false 1 (10 ^ 12))) (absolute y)) ≡ ltb (p - q) b
short_along {d = false} {p = p} {q = q} {b = b} X Y h k B C = short_is (p - q) b X.is Y.is (omega arith) (omega arith) (omega arith) B C
short_along {d = true} {p = p} {q = q} {b = b} X Y h k B C = short_is (p - q) b X.is Y.is (omega arith) (omega arith) (omega arith) B C

pub far_along : {d : Bool} {x y : Float} {p q b : ℕ} → Along d x p q → Along d y b 0 → 0 < b → q + 8 * b ≤ p → lt (absolute (div binary64 x y)) (of_int binary64 (pos 8)) ≡ false
far_along {d = false} X Y B h = div_far X.is Y.is (omega arith) (omega arith)
far_along {d = true} X Y B h = div_far X.is Y.is (omega arith) (omega arith)

-- |x| = S, of either sign
pub eight_along : {d : Bool} {x y : Float} {p q b : ℕ} (S : ℕ) → Is x p q → max p q ≡ S + min p q → Along d y b 0 → 0 < b → b ≤ 2 ^ 31
    → lt (absolute (div binary64 x y)) (of_int binary64 (pos 8)) ≡ ltb S (8 * b)
eight_along {d = false} {b = b} S X e Y B h = below_eight_steps S b X Y.is e (omega arith) B h
eight_along {d = true} {b = b} S X e Y B h = below_eight_steps S b X Y.is e (omega arith) B h

pub apart_along : {d : Bool} {y : Float} {b : ℕ} → Along d y b 0 → 0 < b → eq y nought ≡ false
apart_along {d = false} {b = b} Y h = eq_whole Y.is nought_whole ∙ ne_eqb (b + 0) (0 + 0) (λ (e : b + 0 ≡ 0 + 0). omega arith)
apart_along {d = true} {b = b} Y h = eq_whole Y.is nought_whole ∙ ne_eqb (0 + 0) (0 + b) (λ (e : 0 + 0 ≡ 0 + b). omega arith)
