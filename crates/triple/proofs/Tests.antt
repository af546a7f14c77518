-- What the tests `x == 0.0`, `x < 0.0` and `x != x` tell of a float.
use mathlib.Core.Path.{◌≡◌, refl, sym, ap, subst}
use Prim.Native.Nat.{ℕ, ◌+◌, ◌*◌}
use native.Mathlib.Nat.{zero-mul}
use native.Mathlib.Omega.{arith}
use mathlib.Core.Bool.{Bool, true, false, not, ◌&&◌}
use lib.Dec.{T, eqb, ltb→lt, nltb→le, eqb_refl}
use lib.Ieee.{Float, nan, inf, fin, up, down, level, neg, lt, eq, ne, is_nan}
use lib.Ieee.Fits.{and_i, eq→eqb}
use lib.Ieee.Bits.{is_true}
use lib.Ieee.Compare.{differs_from_itself}
use Rattle.double.specs.Doubles.{Double}
use Rattle.double.proofs.Own.{zero_own}
use Rattle.double.proofs.Zeros.{zero_by}
use Rattle.triple.specs.Arithmetic.{nought}
use Rattle.triple.specs.Size.{absolute}

pub holds : {b : Bool} → b ≡ true → T b
holds e = subst T (sym e) tt

pub fails : {b : Bool} → b ≡ false → T (not b)
fails e = subst (λ (b : Bool). T (not b)) (sym e) tt

clash : (b : Bool) → T b → T (not b) → ⊥
clash true t n = n
clash false t n = t

-- both zeros have 0.0 for their absolute value
pub at_zero : (x : Float) → Double x → T (eq x nought) → nought ≡ absolute x
unfolding absolute
at_zero x f t =
    let (s, (e, p)) = zero_by x (is_true (eq x nought) t) in
    subst (λ (y : Float). nought ≡ absolute y) (sym p) (ap (fin false 0) (sym (zero_own s e (subst (λ (y : Float). Double y) p f))))

pub below_zero : (x : Float) → T (lt x nought) → neg x ≡ absolute x
unfolding lt neg absolute
below_zero nan t = absurd t
below_zero (inf true) t = refl
below_zero (inf false) t = absurd t
below_zero (fin true m e) t = refl
below_zero (fin false m e) t = absurd (omega (arith, ltb→lt (m * up e * 1) (0 * down e) t, zero-mul (down e)))

pub above_zero : (x : Float) → T (not (eq x nought)) → T (not (lt x nought)) → x ≡ absolute x
unfolding eq lt absolute
above_zero nan n l = refl
above_zero (inf true) n l = absurd l
above_zero (inf false) n l = refl
above_zero (fin false m e) n l = refl
above_zero (fin true m e) n l =
    let h = nltb→le 0 (m * up e * 1 + 0 * down e) l in
    absurd (not_level (m * up e * 1) (0 * down e) (omega arith) (omega arith) n)
  where
    not_level : (a b : ℕ) → a ≡ b → a ≡ 0 → T (not (level true a false b)) → ⊥
    not_level a b p q k = clash (level true a false b) (and_i (eqb a b) (eqb a 0) (eq→eqb p) (eq→eqb q)) k

-- only a NaN differs from itself
pub differs : (x : Float) → ne x x ≡ is_nan x
unfolding ne is_nan
differs nan = refl
differs (inf true) = refl
differs (inf false) = refl
differs (fin true m e) = let a = m * up e * down e in ap (λ (b : Bool). not (b && true)) (is_true (eqb a a) (eqb_refl a))
differs (fin false m e) = let a = m * up e * down e in ap (λ (b : Bool). not (b && true)) (is_true (eqb a a) (eqb_refl a))

-- so a test that it does tells what it is
pub differing : (x : Float) → ne x x ≡ true → x ≡ nan
differing x e = differs_from_itself x (holds e)
