-- Finite numbers; and what is left of a number less itself, on which `is_finite` turns.
use mathlib.Core.Path.{◌≡◌, refl, ap, ◌∙◌}
use Prim.Native.Nat.{ℕ, ◌-◌, ◌*◌, ◌<◌}
use native.Mathlib.Nat.{mul-pos, sub_self}
use native.Mathlib.Omega.{arith}
use mathlib.Core.Bool.{Bool, true, false, not, cond}
use lib.Dec.{ltb}
use lib.Ieee.{Float, nan, inf, fin, binary64, up, down, round, sum, neg, add, sub, eq}
use lib.Ieee.Exact.{HasValue}
use lib.Ieee.Fits.{down_pos}
use borrow.Author.Tests.{le-ltb}
use Rattle.double.proofs.Own.{zero_round}
use Rattle.triple.specs.Arithmetic.{nought}
use Rattle.triple.specs.Finite.{is_finite}

-- what has a value is finite
pub has_value : (x : Float) (s : Bool) (a c : ℕ) → HasValue x s a c → is_finite x ≡ true
unfolding is_finite
has_value nan s a c h = absurd h
has_value (inf t) s a c h = absurd h
has_value (fin t m e) s a c h = refl

-- ±a and ∓a
pub cancel : (s : Bool) (a c : ℕ) → 0 < c → sum binary64 s a (not s) a c ≡ nought
unfolding sum
cancel true a c h = left (le-ltb a a (omega arith)) ∙ ap (λ (z : ℕ). round binary64 false z c) (sub_self a) ∙ zero_round false c h
  where
    left : ltb a a ≡ false → cond (ltb a a) (round binary64 false (a - a) c) (round binary64 (ltb a a) (a - a) c) ≡ round binary64 false (a - a) c
    left e = ap (λ (b : Bool). cond b (round binary64 false (a - a) c) (round binary64 b (a - a) c)) e
cancel false a c h = ap (λ (b : Bool). cond b (round binary64 true (a - a) c) (round binary64 false (a - a) c)) (le-ltb a a (omega arith)) ∙ ap (λ (z : ℕ). round binary64 false z c) (sub_self a) ∙ zero_round false c h

-- a NaN and an infinity leave a NaN, which differs from itself
pub less_itself : (x : Float) → eq (sub binary64 x x) (sub binary64 x x) ≡ is_finite x
unfolding is_finite sub add neg eq
less_itself nan = refl
less_itself (inf true) = refl
less_itself (inf false) = refl
less_itself (fin s m e) = ap (λ (y : Float). eq y y) (cancel s (m * up e * down e) (down e * down e) (mul-pos (down_pos e) (down_pos e)))
