-- |x / y|, rounded, is below 8 exactly where |x| is less than eight times |y|, for whole numbers with |y| from 1 to 2^31.
use mathlib.Core.Path.{◌≡◌, refl, sym, ap, ◌∙◌, subst}
use Prim.Native.Nat.{ℕ, zero, suc, ◌+◌, ◌-◌, ◌*◌, ◌/◌, ◌%◌, ◌^◌, ◌≤◌, ◌<◌, min, max, compare}
use native.Mathlib.Omega.{arith}
use mathlib.Core.Bool.{Bool, true, false, not, cond}
use lib.IntN.{pos, negsuc}
use lib.Dec.{T, ltb, lt→ltb, ltb→lt, nltb→le, lit<}
use lib.Arith.{le→nltb}
use lib.Ieee.{Float, nan, inf, fin, Format, binary64, prec, emax, low, up, down, unlike, odd, units, size, nearest, round, neg, div, lt, le, of_int}
use lib.Ieee.Fits.{down_pos, round_is}
use lib.Ieee.Order.{round_mono}
use lib.Ieee.Positive.{above, above_of_le, le→cross}
use lib.Ieee.Bits.{is_true, is_false}
use Rattle.double.proofs.Signs.{Clear, round_clear, at_most}
use Rattle.triple.specs.Size.{absolute}
use Rattle.whole.proofs.Scale.{one_pos}
use Rattle.whole.proofs.Values.{div_is}
use Rattle.whole.proofs.Exact.{Is, size_is}

-- ---- a negative quotient is the positive one with the other sign
odd_neg : (d q k l : ℕ) → neg (odd d false q k l) ≡ odd d true q k l
unfolding neg odd
odd_neg d zero k l = refl
odd_neg d (suc q) k l = refl

units_neg : (f : Format) (q k : ℕ) → neg (units f false q k) ≡ units f true q k
unfolding units
units_neg f q k = go (ltb (q * 2 ^ k) (2 ^ (low f + suc (emax f))))
  where
    go : (c : Bool) → neg (cond c (odd (suc (prec f)) false q k (low f)) (inf false)) ≡ cond c (odd (suc (prec f)) true q k (low f)) (inf true)
    go true = odd_neg (suc (prec f)) q k (low f)
    go false = unfold neg in refl

pub round_neg : (f : Format) (a c : ℕ) → neg (round f false a c) ≡ round f true a c
round_neg f a c =
    let n = a * 2 ^ low f in
    let k = size (n / c) - prec f in
    let u = c * 2 ^ k in
    ap neg (round_is f false a c) ∙ units_neg f (nearest (n / u) (compare (n % u * 2) u)) k ∙ sym (round_is f true a c)

-- ---- 8, as a float
abbrev eight : Float
eight = fin false 1 (pos 3)

eight_is : of_int binary64 (pos 8) ≡ eight
unfolding of_int round
eight_is = refl

eight_round : round binary64 false 8 1 ≡ eight
unfolding round
eight_round = refl

-- ---- a quotient of 8 at least, of either sign
far : (a b : ℕ) → 0 < b → 8 * b ≤ a → T (le eight (round binary64 false a b))
far a b B h = subst (λ (z : Float). T (le z (round binary64 false a b))) eight_round (round_mono binary64 8 1 a b one_pos B (omega arith))

not_near : (z : Float) → T (above z) → T (le eight z) → (lt (absolute z) eight ≡ false) × (lt (absolute (neg z)) eight ≡ false)
unfolding absolute lt neg
not_near nan t h = absurd t
not_near (inf true) t h = absurd t
not_near (inf false) t h = (refl, refl)
not_near (fin true m e) t h = absurd t
not_near (fin false m e) t h =
    let c : 8 * down e ≤ m * up e * 1 = le→cross eight (fin false m e) tt t h in
    let r : ltb (m * up e * 1) (8 * down e) ≡ false = is_false (ltb (m * up e * 1) (8 * down e)) (le→nltb (m * up e * 1) (8 * down e) c) in
    (r, r)

far_either : (s : Bool) (a b : ℕ) → 0 < b → 8 * b ≤ a → lt (absolute (round binary64 s a b)) eight ≡ false
far_either false a b B h = (not_near (round binary64 false a b) (above_of_le eight (round binary64 false a b) tt (far a b B h)) (far a b B h)).0
far_either true a b B h =
    ap (λ (z : Float). lt (absolute z) eight) (sym (round_neg binary64 a b))
    ∙ (not_near (round binary64 false a b) (above_of_le eight (round binary64 false a b) tt (far a b B h)) (far a b B h)).1

-- 8 |y| ≤ |x|, with |y| above 0
pub div_far : {x y : Float} {p q p' q' : ℕ} → Is x p q → Is y p' q' → min p' q' < max p' q' → 8 * max p' q' + min p q ≤ max p q + 8 * min p' q'
    → lt (absolute (div binary64 x y)) (of_int binary64 (pos 8)) ≡ false
div_far {x} {y} {p} {q} {p'} {q'} X Y B h =
    let a = X.size in
    let b = Y.size in
    let e = size_is X in
    let g = size_is Y in
    let b0 : 0 < b = omega arith in
    let h8 : 8 * b ≤ a = omega arith in
    ap (λ (z : Float). lt (absolute (div binary64 x y)) z) eight_is
    ∙ ap (λ (z : Float). lt (absolute z) eight) (div_is binary64 x y X.sign a Y.sign b X.value Y.value b0)
    ∙ far_either (unlike X.sign Y.sign) a b b0 h8

-- ---- a quotient below 8 lies as far below it as 2^-31, since |y| is no larger than 2^31
abbrev under : Float
under = fin false (2 ^ 34 - 1) (negsuc 30)

under_round : round binary64 false (2 ^ 34 - 1) (2 ^ 31) ≡ under
unfolding round
under_round = refl

near : (a b : ℕ) → 0 < b → b ≤ 2 ^ 31 → a < 8 * b → T (le (round binary64 false a b) under)
near a b B C h = subst (λ (z : Float). T (le (round binary64 false a b) z)) under_round (round_mono binary64 a b (2 ^ 34 - 1) (2 ^ 31) B (lit< tt) (omega arith))

below_eight : (z : Float) → Clear z → T (le z under) → (lt (absolute z) eight ≡ true) × (lt (absolute (neg z)) eight ≡ true)
unfolding absolute lt le neg
below_eight nan c h = absurd h
below_eight (inf true) c h = absurd c
below_eight (inf false) c h = absurd h
below_eight (fin true m e) c h = absurd c
below_eight (fin false m e) c h =
    let d : 0 < down e = down_pos e in
    let l : m * up e * 2 ^ 31 ≤ (2 ^ 34 - 1) * 1 * down e = at_most (m * up e * 2 ^ 31) ((2 ^ 34 - 1) * 1 * down e) h in
    let r : ltb (m * up e * 1) (1 * 2 ^ 3 * down e) ≡ true = is_true (ltb (m * up e * 1) (1 * 2 ^ 3 * down e)) (lt→ltb (m * up e * 1) (1 * 2 ^ 3 * down e) (omega arith)) in
    (r, r)

near_either : (s : Bool) (a b : ℕ) → 0 < b → b ≤ 2 ^ 31 → a < 8 * b → lt (absolute (round binary64 s a b)) eight ≡ true
near_either false a b B C h = (below_eight (round binary64 false a b) (round_clear binary64 a b) (near a b B C h)).0
near_either true a b B C h =
    ap (λ (z : Float). lt (absolute z) eight) (sym (round_neg binary64 a b)) ∙ (below_eight (round binary64 false a b) (round_clear binary64 a b) (near a b B C h)).1

-- |x| < 8 |y|, with |y| from 1 to 2^31
pub div_near : {x y : Float} {p q p' q' : ℕ} → Is x p q → Is y p' q' → min p' q' < max p' q' → max p' q' ≤ min p' q' + 2 ^ 31 → max p q + 8 * min p' q' < 8 * max p' q' + min p q
    → lt (absolute (div binary64 x y)) (of_int binary64 (pos 8)) ≡ true
div_near {x} {y} {p} {q} {p'} {q'} X Y B C h =
    let a = X.size in
    let b = Y.size in
    let e = size_is X in
    let g = size_is Y in
    let b0 : 0 < b = omega arith in
    let b1 : b ≤ 2 ^ 31 = omega arith in
    let h8 : a < 8 * b = omega arith in
    ap (λ (z : Float). lt (absolute (div binary64 x y)) z) eight_is
    ∙ ap (λ (z : Float). lt (absolute z) eight) (div_is binary64 x y X.sign a Y.sign b X.value Y.value b0)
    ∙ near_either (unlike X.sign Y.sign) a b b0 b1 h8

-- the test itself, with |x| = S and |y| = H
pub below_eight_steps : {x y : Float} {p q p' q' : ℕ} (S H : ℕ) → Is x p q → Is y p' q' → max p q ≡ S + min p q → max p' q' ≡ H + min p' q' → 0 < H → H ≤ 2 ^ 31
    → lt (absolute (div binary64 x y)) (of_int binary64 (pos 8)) ≡ ltb S (8 * H)
below_eight_steps {x} {y} {p} {q} {p'} {q'} S H X Y e g l m = go (ltb S (8 * H)) (ltb→lt S (8 * H)) (nltb→le S (8 * H))
  where
    go : (b : Bool) → (T b → S < 8 * H) → (T (not b) → 8 * H ≤ S) → lt (absolute (div binary64 x y)) (of_int binary64 (pos 8)) ≡ b
    go true f k = let h = f tt in div_near X Y (omega arith) (omega arith) (omega arith)
    go false f k = let h = k tt in div_far X Y (omega arith) (omega arith)
