-- What is never negative: a rounded fraction, a square, a sum and a quotient of such numbers. None is below a tolerance that is not above zero.
use mathlib.Core.Path.{◌≡◌, refl, sym, subst}
use Prim.Native.Nat.{ℕ, zero, suc, ◌+◌, ◌-◌, ◌*◌, ◌/◌, ◌%◌, ◌^◌, ◌≤◌, ◌<◌, compare}
use native.Mathlib.Nat.{zero-mul}
use native.Mathlib.Omega.{arith}
use mathlib.Core.Bool.{Bool, true, false, not, ◌&&◌, ◌||◌, cond}
use lib.Dec.{T, ltb, eqb, eqb→eq, ltb→lt}
use lib.Ieee.{Float, nan, inf, fin, Format, binary64, prec, emax, low, up, down, odd, units, size, nearest, round, sum, add, mul, div, lt, le, eq}
use lib.Ieee.Fits.{round_is}
use borrow.Author.Tests.{ltb-false, le-ltb}
use Rattle.double.specs.Doubles.{nought}

-- not negative, and no NaN
abbrev pub Clear : Float → Type 0
Clear nan = ⊥
Clear (inf s) = T (not s)
Clear (fin s m e) = T (not s)

pub round_clear : (f : Format) (a c : ℕ) → Clear (round f false a c)
round_clear f a c =
    let n = a * 2 ^ low f in
    let k = size (n / c) - prec f in
    let u = c * 2 ^ k in
    subst Clear (sym (round_is f false a c)) (go (nearest (n / u) (compare (n % u * 2) u)) k)
  where
    of_odd : (d q k l : ℕ) → Clear (odd d false q k l)
    of_odd d zero k l = unfold odd in tt
    of_odd d (suc q) k l = unfold odd in tt

    pick : (c : Bool) (q k : ℕ) → Clear (cond c (odd (suc (prec f)) false q k (low f)) (inf false))
    pick true q k = of_odd (suc (prec f)) q k (low f)
    pick false q k = tt

    go : (q k : ℕ) → Clear (units f false q k)
    go q k = unfold units in pick (ltb (q * 2 ^ k) (2 ^ (low f + suc (emax f)))) q k

-- not negative, or NaN
abbrev pub Plain : Float → Type 0
Plain nan = Unit {0}
Plain (inf s) = T (not s)
Plain (fin s m e) = T (not s)

plain_of_clear : (x : Float) → Clear x → Plain x
plain_of_clear nan h = tt
plain_of_clear (inf s) h = h
plain_of_clear (fin s m e) h = h

pub plain_round : (a c : ℕ) → Plain (round binary64 false a c)
plain_round a c = plain_of_clear (round binary64 false a c) (round_clear binary64 a c)

pub plain_cond : (b : Bool) (x y : Float) → Plain x → Plain y → Plain (cond b x y)
plain_cond true x y h k = h
plain_cond false x y h k = k

-- ---- squares, sums and quotients
pub plain_square : (x : Float) → Plain (mul binary64 x x)
unfolding mul
plain_square nan = tt
plain_square (inf true) = tt
plain_square (inf false) = tt
plain_square (fin true m e) = plain_round (m * up e * (m * up e)) (down e * down e)
plain_square (fin false m e) = plain_round (m * up e * (m * up e)) (down e * down e)

pub plain_add : (x y : Float) → Plain x → Plain y → Plain (add binary64 x y)
unfolding add sum
plain_add nan y h k = tt
plain_add (inf s) nan h k = tt
plain_add (inf false) (inf false) h k = tt
plain_add (inf false) (inf true) h k = tt
plain_add (inf true) (inf t) h k = absurd h
plain_add (inf s) (fin t n d) h k = h
plain_add (fin s m e) nan h k = tt
plain_add (fin s m e) (inf t) h k = k
plain_add (fin false m e) (fin false n d) h k = plain_round (m * up e * down d + n * up d * down e) (down e * down d)
plain_add (fin false m e) (fin true n d) h k = absurd k
plain_add (fin true m e) (fin t n d) h k = absurd h

pub plain_div : (x y : Float) → Plain x → Plain y → Plain (div binary64 x y)
unfolding div
plain_div nan y h k = tt
plain_div (inf s) nan h k = tt
plain_div (inf s) (inf t) h k = tt
plain_div (inf false) (fin false n d) h k = tt
plain_div (inf false) (fin true n d) h k = absurd k
plain_div (inf true) (fin t n d) h k = absurd h
plain_div (fin s m e) nan h k = tt
plain_div (fin false m e) (inf false) h k = tt
plain_div (fin false m e) (inf true) h k = absurd k
plain_div (fin true m e) (inf t) h k = absurd h
plain_div (fin false m e) (fin false n d) h k =
    plain_cond (eqb n 0) (cond (eqb m 0) nan (inf false)) (round binary64 false (m * up e * down d) (n * up d * down e))
    (plain_cond (eqb m 0) nan (inf false) tt tt) (plain_round (m * up e * down d) (n * up d * down e))
plain_div (fin false m e) (fin true n d) h k = absurd k
plain_div (fin true m e) (fin t n d) h k = absurd h

-- ---- against a tolerance that is not above zero
pub not_below : (x tol : Float) → Plain x → lt nought tol ≡ false → lt x tol ≡ false
unfolding lt
not_below nan tol h k = refl
not_below (inf s) nan h k = refl
not_below (inf true) (inf t) h k = absurd h
not_below (inf false) (inf t) h k = refl
not_below (inf true) (fin t n d) h k = absurd h
not_below (inf false) (fin t n d) h k = refl
not_below (fin s m e) nan h k = refl
not_below (fin s m e) (inf true) h k = refl
not_below (fin s m e) (inf false) h k = k
not_below (fin true m e) (fin t n d) h k = absurd h
not_below (fin false m e) (fin true n d) h k = refl
not_below (fin false m e) (fin false n d) h k =
    let z : n * up d * 1 ≤ 0 * down d = ltb-false _ _ k in
    let y : n * up d ≡ 0 = omega (arith, z, zero-mul (down d)) in
    le-ltb (m * up e * down d) (n * up d * down e) (subst (λ (x : ℕ). x * down e ≤ m * up e * down d) (sym y) (omega arith))

-- "at most", as floats without a minus sign are compared
pub at_most : (a b : ℕ) → T (ltb a b || (eqb a b && true)) → a ≤ b
at_most a b t = go (ltb a b) (eqb a b) (ltb→lt a b) (eqb→eq a b) t
  where
    go : (x y : Bool) → (T x → a < b) → (T y → a ≡ b) → T (x || (y && true)) → a ≤ b
    go true y f g t = let l = f tt in omega arith
    go false true f g t = let l = g tt in omega arith
    go false false f g t = absurd t

pub not_above : (tol : Float) → le tol nought ≡ true → lt nought tol ≡ false
unfolding le lt eq
not_above nan h = refl
not_above (inf true) h = refl
not_above (inf false) h = sym h
not_above (fin true n d) h = refl
not_above (fin false n d) h = le-ltb (0 * down d) (n * up d * 1) (at_most (n * up d * 1) (0 * down d) (subst T (sym h) tt))
