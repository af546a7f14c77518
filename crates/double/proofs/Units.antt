-- Floats that are finite and have no minus sign, by their units of 2 ^ -1074: what a product, a quotient and a sum of them round, how they compare,
-- and what a comparison with a rounded fraction tells of the fraction.
use mathlib.Core.Path.{◌≡◌, refl, sym, ap, ◌∙◌, subst}
use Prim.Native.Nat.{ℕ, ◌+◌, ◌*◌, ◌/◌, ◌^◌, ◌≤◌, ◌<◌}
use native.Mathlib.Nat.{le_of_lt, le_of_mul-le-mul_right, lt_irrefl, lt_of_not-le, not-le_of_lt, zero-mul, mul_right_comm, mul-mul-mul_comm, mul-le-mul_right, mul-pos, mul-div_cancel, eq_of_mul-eq-mul_right}
use native.Mathlib.Omega.{arith}
use mathlib.Core.Bool.{Bool, true, false, not, cond, true≢false, false≢true}
use lib.Dec.{T, ltb, eqb, eqb→eq, ltb→lt, nltb→le}
use lib.Pow.{pow_pos}
use lib.Ieee.{Float, nan, inf, fin, binary64, up, down, round, sum, add, mul, div, lt, le}
use lib.Ieee.Fits.{down_pos}
use lib.Ieee.Exact.{HasValue}
use lib.Ieee.Order.{round_mono, transfer}
use lib.Ieee.Scale.{round_same}
use lib.Ieee.Bits.{cond_no}
use borrow.Author.Tests.{ltb-true, lt-ltb, le-ltb}
use Rattle.double.specs.Doubles.{Double}
use Rattle.double.specs.Units.{in_units, units_in, NotNegative}
use Rattle.double.proofs.Own.{units_exact, own_round}
use Rattle.double.proofs.Signs.{Clear, round_clear, at_most}

-- x is n units
abbrev pub Units : Float → ℕ → Type 0
Units x n = HasValue x false n (2 ^ 1074)

pub own_units : (x : Float) → Double x → NotNegative x → Units x (units_in x)
own_units nan F N = elim N [ ]
own_units (inf _) F N = elim N [ ]
own_units (fin true m e) F N = elim N [ ]
own_units (fin false m e) F N = (refl, units_exact false m e F)

pub units_are : (x : Float) (n : ℕ) → Units x n → NotNegative x × (units_in x ≡ n)
unfolding in_units
units_are nan n h = elim h [ ]
units_are (inf _) n h = elim h [ ]
units_are (fin true m e) n h = absurd (true≢false h.0)
units_are (fin false m e) n h = (tt, ap (λ (z : ℕ). z / down e) h.1 ∙ mul-div_cancel n (down_pos e))

-- a double is what its units are rounded to, with its sign
own_value : (s : Bool) (x : Float) (n : ℕ) → Double x → HasValue x s n (2 ^ 1074) → round binary64 s n (2 ^ 1074) ≡ x
own_value s nan n F h = absurd h
own_value s (inf t) n F h = absurd h
own_value s (fin t m e) n F h =
    ap (λ (b : Bool). round binary64 b n (2 ^ 1074)) (sym h.0)
    ∙ round_same binary64 t n (2 ^ 1074) (m * up e) (down e) (pow_pos 1074) (down_pos e) (sym h.1)
    ∙ own_round t m e F

-- so no other double has as many, with that sign
pub same_value : (s : Bool) (x y : Float) (n : ℕ) → Double x → Double y → HasValue x s n (2 ^ 1074) → HasValue y s n (2 ^ 1074) → x ≡ y
same_value s x y n F G h k = sym (own_value s x n F h) ∙ own_value s y n G k

-- ---- arithmetic
pub mul_units : (x y : Float) (a b : ℕ) → Units x a → Units y b → mul binary64 x y ≡ round binary64 false (a * b) (2 ^ 1074 * 2 ^ 1074)
unfolding mul
mul_units nan y a b h k = elim h [ ]
mul_units (inf _) y a b h k = elim h [ ]
mul_units (fin false m e) nan a b h k = elim k [ ]
mul_units (fin false m e) (inf _) a b h k = elim k [ ]
mul_units (fin true m e) y a b h k = absurd (true≢false h.0)
mul_units (fin false m e) (fin true n d) a b h k = absurd (true≢false k.0)
mul_units (fin false m e) (fin false n d) a b h k =
    round_same binary64 false (m * up e * (n * up d)) (down e * down d) (a * b) (2 ^ 1074 * 2 ^ 1074) (mul-pos (down_pos e) (down_pos d)) (mul-pos (pow_pos 1074) (pow_pos 1074))
    (mul-mul-mul_comm (m * up e) (n * up d) (2 ^ 1074) (2 ^ 1074)
    ∙ ap (λ (z : ℕ). z * (n * up d * 2 ^ 1074)) h.1
    ∙ ap (λ (z : ℕ). a * down e * z) k.1
    ∙ mul-mul-mul_comm a (down e) b (down d))

pub div_units : (x y : Float) (a b : ℕ) → Units x a → Units y b → 0 < b → div binary64 x y ≡ round binary64 false a b
unfolding div
div_units nan y a b h k B = elim h [ ]
div_units (inf _) y a b h k B = elim h [ ]
div_units (fin false m e) nan a b h k B = elim k [ ]
div_units (fin false m e) (inf _) a b h k B = elim k [ ]
div_units (fin true m e) y a b h k B = absurd (true≢false h.0)
div_units (fin false m e) (fin true n d) a b h k B = absurd (true≢false k.0)
div_units (fin false m e) (fin false n d) a b h k B =
    cond_no (eqb n 0) (cond (eqb m 0) nan (inf false)) (round binary64 false (m * up e * down d) (n * up d * down e)) (some (eqb n 0) (eqb→eq n 0))
    ∙ round_same binary64 false (m * up e * down d) (n * up d * down e) a b (first (n * up d * down e) (2 ^ 1074) scaled) B
    (eq_of_mul-eq-mul_right (2 ^ 1074) (pow_pos 1074) (m * up e * down d * b) (a * (n * up d * down e))
    (left (m * up e) (down d) b (2 ^ 1074) ∙ ap (λ (z : ℕ). z * (down d * b)) h.1 ∙ middle a (down e) (down d) b ∙ ap (λ (z : ℕ). a * (z * down e)) (sym k.1) ∙ right a (n * up d) (2 ^ 1074) (down e)))
  where
    scaled : 0 < n * up d * down e * 2 ^ 1074
    scaled = subst (λ (z : ℕ). 0 < z) (ap (λ (z : ℕ). z * down e) (sym k.1) ∙ mul_right_comm (n * up d) (2 ^ 1074) (down e)) (mul-pos (mul-pos B (down_pos d)) (down_pos e))

    first : (x y : ℕ) → 0 < x * y → 0 < x
    first x y h = lt_of_not-le (λ (g : x ≤ 0). lt_irrefl 0 (subst (λ (z : ℕ). 0 < z) (ap (λ (z : ℕ). z * y) (none x g) ∙ zero-mul y) h))
      where
        none : (x : ℕ) → x ≤ 0 → x ≡ 0
        none x g = omega arith

    some : (t : Bool) → (T t → n ≡ 0) → T (not t)
    some true f = absurd (lt_irrefl 0 (subst (λ (z : ℕ). 0 < z) (ap (λ (z : ℕ). z * up d * down e * 2 ^ 1074) (f tt) ∙ nil (up d) (down e) (2 ^ 1074)) scaled))
      where
        nil : (x y z : ℕ) → 0 * x * y * z ≡ 0
        nil x y z = omega arith
    some false f = tt

    left : (x y z u : ℕ) → x * y * z * u ≡ x * u * (y * z)
    left x y z u = omega arith

    middle : (a x y z : ℕ) → a * x * (y * z) ≡ a * (z * y * x)
    middle a x y z = omega arith

    right : (a x u y : ℕ) → a * (x * u * y) ≡ a * (x * y) * u
    right a x u y = omega arith

pub add_units : (x y : Float) (a b : ℕ) → Units x a → Units y b → add binary64 x y ≡ round binary64 false (a + b) (2 ^ 1074)
unfolding add sum
add_units nan y a b h k = elim h [ ]
add_units (inf _) y a b h k = elim h [ ]
add_units (fin false m e) nan a b h k = elim k [ ]
add_units (fin false m e) (inf _) a b h k = elim k [ ]
add_units (fin true m e) y a b h k = absurd (true≢false h.0)
add_units (fin false m e) (fin true n d) a b h k = absurd (true≢false k.0)
add_units (fin false m e) (fin false n d) a b h k =
    round_same binary64 false (m * up e * down d + n * up d * down e) (down e * down d) (a + b) (2 ^ 1074) (mul-pos (down_pos e) (down_pos d)) (pow_pos 1074)
    (spread (m * up e) (down d) (n * up d) (down e) (2 ^ 1074) ∙ ap (λ (z : ℕ). z * down d + n * up d * 2 ^ 1074 * down e) h.1 ∙ ap (λ (z : ℕ). a * down e * down d + z * down e) k.1 ∙ gather a b (down e) (down d))
  where
    spread : (x d y e u : ℕ) → (x * d + y * e) * u ≡ x * u * d + y * u * e
    spread x d y e u = omega arith

    gather : (a b e d : ℕ) → a * e * d + b * d * e ≡ (a + b) * (e * d)
    gather a b e d = omega arith

-- ---- order
pub lt_units : (x y : Float) (a b : ℕ) → Units x a → Units y b → lt x y ≡ ltb a b
unfolding lt
lt_units nan y a b h k = elim h [ ]
lt_units (inf _) y a b h k = elim h [ ]
lt_units (fin false m e) nan a b h k = elim k [ ]
lt_units (fin false m e) (inf _) a b h k = elim k [ ]
lt_units (fin true m e) y a b h k = absurd (true≢false h.0)
lt_units (fin false m e) (fin true n d) a b h k = absurd (true≢false k.0)
lt_units (fin false m e) (fin false n d) a b h k = go (ltb a b) (ltb→lt a b) (nltb→le a b)
  where
    back : n * up d * down e ≤ m * up e * down d → b ≤ a
    back g = le_of_mul-le-mul_right (transfer b a (2 ^ 1074) (2 ^ 1074) (n * up d) (m * up e) (down d) (down e) (down_pos d) (down_pos e) (sym k.1) (sym h.1) g) (pow_pos 1074)

    go : (t : Bool) → (T t → a < b) → (T (not t) → b ≤ a) → ltb (m * up e * down d) (n * up d * down e) ≡ t
    go true f g = lt-ltb (m * up e * down d) (n * up d * down e) (lt_of_not-le (λ (l : n * up d * down e ≤ m * up e * down d). not-le_of_lt (f tt) (back l)))
    go false f g =
        le-ltb (m * up e * down d) (n * up d * down e)
        (transfer (n * up d) (m * up e) (down d) (down e) b a (2 ^ 1074) (2 ^ 1074) (pow_pos 1074) (pow_pos 1074) k.1 h.1
        (mul-le-mul_right (2 ^ 1074) (g tt)))

-- at most and below shut each other out
clash : (x y : Float) → Clear x → Clear y → T (le x y) → lt y x ≡ true → ⊥
unfolding le lt
clash nan y C D l k = C
clash (inf true) y C D l k = C
clash (inf false) nan C D l k = D
clash (inf false) (inf t) C D l k = absurd (no t D k)
  where
    no : (t : Bool) → T (not t) → lt (inf t) (inf false) ≡ true → ⊥
    no true D k = D
    no false D k = false≢true k
clash (inf false) (fin t n d) C D l k = l
clash (fin true m e) y C D l k = C
clash (fin false m e) nan C D l k = D
clash (fin false m e) (inf true) C D l k = D
clash (fin false m e) (inf false) C D l k = false≢true k
clash (fin false m e) (fin true n d) C D l k = D
clash (fin false m e) (fin false n d) C D l k =
    not-le_of_lt (ltb-true (n * up d * down e) (m * up e * down d) k) (at_most (m * up e * down d) (n * up d * down e) l)

units_clear : (x : Float) (n : ℕ) → Units x n → Clear x
units_clear nan n h = elim h [ ]
units_clear (inf _) n h = elim h [ ]
units_clear (fin true m e) n h = absurd (true≢false h.0)
units_clear (fin false m e) n h = tt

-- a / c is y at least: then so is what it rounds to
pub not_below_rounded : (a c : ℕ) (y : Float) (b : ℕ) → 0 < c → Double y → Units y b → b * c ≤ a * 2 ^ 1074 → lt (round binary64 false a c) y ≡ false
not_below_rounded a c y b C F h l = go (lt (round binary64 false a c) y) refl
  where
    go : (t : Bool) → lt (round binary64 false a c) y ≡ t → t ≡ false
    go true e =
        absurd (clash y (round binary64 false a c) (units_clear y b h) (round_clear binary64 a c)
        (subst (λ (z : Float). T (le z (round binary64 false a c))) (own_value false y b F h) (round_mono binary64 b (2 ^ 1074) a c (pow_pos 1074) C l)) e)
    go false e = refl

-- so where that is below y, a / c is y at most
pub below_tells : (a c : ℕ) (y : Float) (b : ℕ) → 0 < c → Double y → Units y b → lt (round binary64 false a c) y ≡ true → a * 2 ^ 1074 ≤ b * c
below_tells a c y b C F h k = go (ltb (b * c) (a * 2 ^ 1074)) (ltb→lt (b * c) (a * 2 ^ 1074)) (nltb→le (b * c) (a * 2 ^ 1074))
  where
    go : (t : Bool) → (T t → b * c < a * 2 ^ 1074) → (T (not t) → a * 2 ^ 1074 ≤ b * c) → a * 2 ^ 1074 ≤ b * c
    go true f g = absurd (true≢false (sym k ∙ not_below_rounded a c y b C F h (le_of_lt (f tt))))
    go false f g = g tt

-- ---- what lies above a float without a minus sign, and below any, is finite and has none
pub between : (lo x hi : Float) → Clear lo → lt lo x ≡ true → lt x hi ≡ true → NotNegative x
unfolding lt
between nan x hi C l k = absurd C
between (inf true) x hi C l k = absurd C
between (inf false) nan hi C l k = absurd (false≢true l)
between (inf false) (inf t) hi C l k = absurd (false≢true l)
between (inf false) (fin t m e) hi C l k = absurd (false≢true l)
between (fin true a c) x hi C l k = absurd C
between (fin false a c) nan hi C l k = absurd (false≢true l)
between (fin false a c) (inf true) hi C l k = absurd (false≢true l)
between (fin false a c) (inf false) nan C l k = absurd (false≢true k)
between (fin false a c) (inf false) (inf t) C l k = absurd (false≢true k)
between (fin false a c) (inf false) (fin t o i) C l k = absurd (false≢true k)
between (fin false a c) (fin true m e) hi C l k = absurd (false≢true l)
between (fin false a c) (fin false m e) hi C l k = tt
