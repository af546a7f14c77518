-- Beside a tolerance that is not above zero nothing is still: a quotient of sizes is never negative. And where mean squares tell it, they tell it right.
use mathlib.Core.Path.{◌≡◌, ap}
use Prim.Native.Nat.{◌*◌, ◌^◌, ◌≤◌}
use mathlib.Core.Bool.{Bool, true, false, ◌&&◌}
use lib.Ieee.{Float, binary64, add, mul, div, lt}
use Rattle.double.specs.Doubles.{Double}
use Rattle.double.specs.Units.{units_in, NotNegative}
use Rattle.double.proofs.Signs.{plain_round, plain_add, plain_div, not_below}
use Rattle.triple.specs.declared.Triple.{Triple}
use Rattle.triple.specs.declared.State.{State}
use Rattle.triple.specs.Arithmetic.{nought, minus}
use Rattle.triple.specs.Size.{mean_square, size_of, tiny}
use Rattle.triple.proofs.Signs.{plain_mean, plain_size, double_mean}
use Rattle.conditions.specs.Conditions.{is_still, is_at_rest}
use Rattle.conditions.specs.Usual.{is_usual}
use Rattle.conditions.proofs.Told.{limit_of, told_below, told_above}

still_not : (tol : Float) (before after : Triple) → lt nought tol ≡ false → is_still tol before after ≡ false
unfolding is_still tiny
still_not tol before after h =
    not_below (div binary64 (size_of (minus after before)) (add binary64 (size_of after) tiny)) tol
    (plain_div (size_of (minus after before)) (add binary64 (size_of after) tiny) (plain_size (minus after before))
    (plain_add (size_of after) tiny (plain_size after) (plain_round 1 (10 ^ 30)))) h

pub rests_not : (tol : Float) (before after : State) → lt nought tol ≡ false → is_at_rest tol before after ≡ false
unfolding is_at_rest
rests_not tol before after h = ap (λ (b : Bool). b && is_still tol before.v after.v) (still_not tol before.r after.r h)

-- ---- by mean squares, for a factor k of 2 or more
module _ (tol k : Float) (before after : Triple) (F : Double tol) (u : is_usual tol (mean_square after) ≡ true) (K : Double k) (N : NotNegative k) (two : 2 * 2 ^ 1074 ≤ units_in k) where
  pub still_below : lt (mul binary64 (mean_square (minus after before)) k) (limit_of tol (mean_square after)) ≡ true → is_still tol before after ≡ true
  unfolding is_still size_of
  still_below h = told_below tol (mean_square after) k F (double_mean after) u K N two (mean_square (minus after before)) (double_mean (minus after before)) (plain_mean (minus after before)) h

  pub still_above : lt (mul binary64 (limit_of tol (mean_square after)) k) (mean_square (minus after before)) ≡ true → is_still tol before after ≡ false
  unfolding is_still size_of
  still_above h = told_above tol (mean_square after) k F (double_mean after) u K N two (mean_square (minus after before)) (double_mean (minus after before)) (plain_mean (minus after before)) h
