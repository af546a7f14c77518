-- Sums and products that are finite are made of what is finite; a double plus a zero is that double, but that -0.0 may become 0.0.
use Prim.Native.Nat.{ℕ, zero, suc, ◌*◌, ◌<◌}
use mathlib.Core.Path.{◌≡◌, refl, sym, ap, ◌∙◌}
use mathlib.Core.Logic.{◌⊎◌, inl, inr}
use mathlib.Core.Bool.{Bool, true, false, cond, beq}
use native.Mathlib.Omega.{arith}
use native.Mathlib.Nat.{mul-one, add-zero, sub-zero}
use lib.Dec.{eqb}
use lib.IntN.{ℤ, pos}
use lib.Ieee.{Float, nan, inf, fin, binary64, up, down, unlike, round, sum, neg, add, sub, mul}
use lib.Ieee.Fits.{down_pos}
use borrow.Author.Tests.{lt-ltb, le-ltb}
use Rattle.double.specs.Doubles.{Double, nought}
use Rattle.double.proofs.Own.{zero_round, own_round}
use Rattle.triple.specs.Finite.{is_finite}
use Rattle.sentences.specs.Sentences.{Again}

-- ---- what is finite is made of what is finite
infinite_either : (b : Bool) (x y : Float) → is_finite x ≡ false → is_finite y ≡ false → is_finite (cond b x y) ≡ true → false ≡ true
infinite_either true x y e f h = sym e ∙ h
infinite_either false x y e f h = sym f ∙ h

second_of_sum : (x y : Float) → is_finite (add binary64 x y) ≡ true → is_finite y ≡ true
unfolding add is_finite
second_of_sum nan nan h = h
second_of_sum (inf s) nan h = h
second_of_sum (fin s m e) nan h = h
second_of_sum nan (inf t) h = h
second_of_sum (inf s) (inf t) h = infinite_either (beq s t) (inf s) nan refl refl h
second_of_sum (fin s m e) (inf t) h = h
second_of_sum x (fin t n d) h = refl

finite_neg : (x : Float) → is_finite (neg x) ≡ is_finite x
unfolding neg is_finite
finite_neg nan = refl
finite_neg (inf s) = refl
finite_neg (fin s m e) = refl

pub second_of_difference : (x y : Float) → is_finite (sub binary64 x y) ≡ true → is_finite y ≡ true
unfolding sub
second_of_difference x y h = sym (finite_neg y) ∙ second_of_sum x (neg y) h

pub second_of_product : (x y : Float) → is_finite (mul binary64 x y) ≡ true → is_finite y ≡ true
unfolding mul is_finite
second_of_product nan nan h = h
second_of_product (inf s) nan h = h
second_of_product (fin s m e) nan h = h
second_of_product nan (inf t) h = h
second_of_product (inf s) (inf t) h = h
second_of_product (fin s m e) (inf t) h = infinite_either (eqb m 0) nan (inf (unlike s t)) refl refl h
second_of_product x (fin t n d) h = refl

-- ---- a double plus a zero
-- ±a / c plus a zero is ±a / c, or 0.0 where that is -0.0
summed : (s t : Bool) (a c : ℕ) → 0 < c → (sum binary64 s a t 0 c ≡ round binary64 s a c) ⊎ ((s ≡ true) × ((a ≡ 0) × (sum binary64 s a t 0 c ≡ nought)))
unfolding sum
summed true true a c h = inl (ap (λ (z : ℕ). round binary64 true z c) (add-zero a))
summed false false a c h = inl (ap (λ (z : ℕ). round binary64 false z c) (add-zero a))
summed false true a c h = inl (rw (le-ltb a 0 (omega arith), sub-zero a))
summed true false zero c h = inr (refl, (refl, rw (le-ltb 0 0 (omega arith)) (zero_round false c h)))
summed true false (suc a) c h = inl (rw (le-ltb (suc a) 0 (omega arith), lt-ltb 0 (suc a) (omega arith), sub-zero (suc a)))

again : (s t : Bool) (m : ℕ) (e : ℤ) → Double (fin s m e) → Again (fin s m e) (sum binary64 s (m * up e) t 0 (down e))
again s t m e f = by (summed s t (m * up e) (down e) (down_pos e))
  where
    own : round binary64 s (m * up e) (down e) ≡ fin s m e
    own = own_round s m e f

    by : (sum binary64 s (m * up e) t 0 (down e) ≡ round binary64 s (m * up e) (down e)) ⊎ ((s ≡ true) × ((m * up e ≡ 0) × (sum binary64 s (m * up e) t 0 (down e) ≡ nought)))
        → Again (fin s m e) (sum binary64 s (m * up e) t 0 (down e))
    by (inl k) = inl (k ∙ own)
    by (inr (negative, (none, k))) =
        inr (
          sym own
              ∙ ap (λ (z : ℕ). round binary64 s z (down e)) none
              ∙ zero_round s (down e) (down_pos e)
              ∙ ap (λ (b : Bool). fin b 0 (pos 0)) negative,
          k,
        )

pub plus_zero : (x : Float) (t : Bool) → Double x → Again x (add binary64 x (fin t 0 (pos 0)))
unfolding add
plus_zero nan t f = inl refl
plus_zero (inf s) t f = inl refl
plus_zero (fin s m e) t f =
    let none : 0 * 1 * down e ≡ 0 = omega arith in
    rw (mul-one (m * up e), none, mul-one (down e)) (again s t m e f)
