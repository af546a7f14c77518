-- Zeros: what is rounded to one, and what "== 0.0" and "> 0.0" tell of a float.
use Prim.Native.Nat.{ℕ, zero, suc, ◌*◌, ◌<◌}
use mathlib.Core.Path.{◌≡◌, refl, ap, ◌∙◌}
use mathlib.Core.Bool.{Bool, true, false, ◌||◌, beq, false≢true}
use native.Mathlib.Omega.{arith}
use native.Mathlib.Nat.{mul-pos, zero-mul, zero-lt-suc}
use lib.IntN.{ℤ, pos}
use lib.Ieee.{Float, nan, inf, fin, binary64, up, down, round, lt, eq}
use lib.Ieee.Fits.{up_pos}
use borrow.Author.Tests.{ltb-true, lt-ltb, eqb-true}
use Rattle.double.specs.Doubles.{nought}
use Rattle.double.proofs.Booleans.{both}
use Rattle.double.proofs.Own.{zero_round}

-- 0.0 or -0.0
abbrev pub Zero : Float → Type 0
Zero x = (t : Bool) × (x ≡ fin t 0 (pos 0))

pub rounded : (s : Bool) (a c : ℕ) → a ≡ 0 → 0 < c → Zero (round binary64 s a c)
rounded s a c e h = (s, ap (λ (z : ℕ). round binary64 s z c) e ∙ zero_round s c h)

-- ---- equal to 0.0: either zero, and nothing else
pub is_zero : (t : Bool) (e : ℤ) → eq (fin t 0 e) nought ≡ true
unfolding eq
is_zero t e =
    let a : 0 * up e * 1 ≡ 0 = omega arith in
    let b : 0 * 1 * down e ≡ 0 = omega arith in
    rw (a, b) (by t)
  where
    by : (t : Bool) → (beq t false || true) ≡ true
    by true = refl
    by false = refl

pub zero_is : (x : Float) → Zero x → eq x nought ≡ true
zero_is x (t, p) = ap (λ (y : Float). eq y nought) p ∙ is_zero t (pos 0)

pub zero_by : (x : Float) → eq x nought ≡ true → (t : Bool) × ((e : ℤ) × (x ≡ fin t 0 e))
unfolding eq
zero_by nan h = absurd (false≢true h)
zero_by (inf s) h = absurd (false≢true h)
zero_by (fin s zero e) h = (s, (e, refl))
zero_by (fin s (suc m) e) h =
    let z : suc m * up e * 1 ≡ 0 * 1 * down e = eqb-true (suc m * up e * 1) (0 * 1 * down e) (both _ _ h).0 in
    absurd (omega (arith, z, mul-pos (zero-lt-suc m) (up_pos e)))

-- ---- above 0.0: a number or the infinity
pub data Above : Float → Type 0 where
  infinite : Above (inf false)
  number : (m : ℕ) (e : ℤ) → Above (fin false (suc m) e)

pub above : (x : Float) → lt nought x ≡ true → Above x
unfolding lt
above nan p = absurd (false≢true p)
above (inf true) p = absurd (false≢true p)
above (inf false) p = infinite
above (fin true m e) p = absurd (false≢true p)
above (fin false zero e) p = let l : 0 * down e < 0 * up e * 1 = ltb-true _ _ p in absurd (omega (arith, l, zero-mul (down e), zero-mul (up e)))
above (fin false (suc m) e) p = number m e

pub number_above : (m : ℕ) (e : ℤ) → lt nought (fin false (suc m) e) ≡ true
unfolding lt
number_above m e = lt-ltb (0 * down e) (suc m * up e * 1) (omega (arith, zero-mul (down e), mul-pos (zero-lt-suc m) (up_pos e)))
