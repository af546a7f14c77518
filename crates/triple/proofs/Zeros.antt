-- Sums, products and quotients that are zero.
use Prim.Native.Nat.{zero, suc, ◌*◌}
use mathlib.Core.Path.{◌≡◌, refl, sym, ap, ◌∙◌, subst}
use mathlib.Core.Bool.{Bool, true, false, true≢false, false≢true}
use native.Mathlib.Omega.{arith}
use native.Mathlib.Nat.{mul-pos, zero-lt-suc}
use lib.IntN.{ℤ, pos}
use lib.Ieee.{Float, nan, inf, fin, binary64, up, down, unlike, sum, neg, add, sub, mul, div, eq}
use lib.Ieee.Fits.{up_pos, down_pos}
use borrow.Author.Tests.{ne_eqb}
use Rattle.double.proofs.Zeros.{Zero, rounded, is_zero, zero_by}
use Rattle.triple.specs.Arithmetic.{nought}
use Rattle.triple.specs.Finite.{is_finite}
use Rattle.triple.proofs.Finite.{cancel}

pub zero_finite : (x : Float) → eq x nought ≡ true → is_finite x ≡ true
unfolding is_finite
zero_finite x h = let (t, (e, p)) = zero_by x h in ap is_finite p

times_zero : (x : Float) (t : Bool) (e : ℤ) → is_finite x ≡ true → Zero (mul binary64 x (fin t 0 e))
unfolding mul is_finite
times_zero nan t e h = absurd (false≢true h)
times_zero (inf s) t e h = absurd (false≢true h)
times_zero (fin s m d) t e h = rounded (unlike s t) (m * up d * (0 * up e)) (down d * down e) (omega arith) (mul-pos (down_pos d) (down_pos e))

pub product : (x y : Float) → is_finite x ≡ true → eq y nought ≡ true → Zero (mul binary64 x y)
product x y f h = let (t, (e, p)) = zero_by y h in subst (λ (z : Float). Zero (mul binary64 x z)) (sym p) (times_zero x t e f)

pub sum_zero : (x y : Float) → Zero x → Zero y → Zero (add binary64 x y)
unfolding add sum
sum_zero x y (s, p) (t, q) = subst (λ (z : Float). Zero (add binary64 z y)) (sym p) (subst (λ (z : Float). Zero (add binary64 (fin s 0 (pos 0)) z)) (sym q) (by s t))
  where
    by : (s t : Bool) → Zero (add binary64 (fin s 0 (pos 0)) (fin t 0 (pos 0)))
    by true true = rounded true 0 1 refl (omega arith)
    by true false = rounded false 0 1 refl (omega arith)
    by false true = rounded false 0 1 refl (omega arith)
    by false false = rounded false 0 1 refl (omega arith)

pub over_zero : (x y : Float) → Zero x → is_finite y ≡ true → eq y nought ≡ false → Zero (div binary64 x y)
unfolding div is_finite
over_zero x nan z f h = absurd (false≢true f)
over_zero x (inf t) z f h = absurd (false≢true f)
over_zero x (fin t zero d) (s, p) f h = absurd (true≢false (sym (is_zero t d) ∙ h))
over_zero x (fin t (suc n) d) (s, p) f h =
    subst (λ (y : Float). Zero (div binary64 y (fin t (suc n) d))) (sym p)
    (rw (ne_eqb (suc n) 0 (λ e. omega arith))
    (rounded (unlike s t) (0 * 1 * down d) (suc n * up d * 1) (omega arith) (mul-pos (mul-pos (zero-lt-suc n) (up_pos d)) (omega arith))))

pub zero_over_zero : (x y : Float) → Zero x → eq y nought ≡ true → div binary64 x y ≡ nan
unfolding div
zero_over_zero x y (s, p) h =
    let (t, (e, q)) = zero_by y h in
    ap (λ (z : Float). div binary64 z y) p ∙ ap (div binary64 (fin s 0 (pos 0))) q

-- a number less itself
pub nothing_left : (x : Float) → is_finite x ≡ true → Zero (sub binary64 x x)
unfolding is_finite sub add neg
nothing_left nan f = absurd (false≢true f)
nothing_left (inf s) f = absurd (false≢true f)
nothing_left (fin s m e) f = (false, cancel s (m * up e * down e) (down e * down e) (mul-pos (down_pos e) (down_pos e)))
