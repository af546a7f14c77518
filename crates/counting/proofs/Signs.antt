-- What a pass keeps is never negative, as sizes are: so a tolerance of zero or less stops nothing.
use mathlib.Core.Path.{◌≡◌}
use Prim.Native.Nat.{◌^◌}
use mathlib.Core.Bool.{true, false}
use mathlib.Core.List.{List}
use lib.Ieee.{Float, binary64, div, le}
use Rattle.double.proofs.Signs.{Plain, plain_round, plain_div, not_below, not_above}
use Rattle.triple.specs.declared.Triple.{Triple}
use Rattle.triple.specs.declared.State.{State}
use Rattle.triple.specs.Arithmetic.{nought, minus}
use Rattle.triple.specs.Size.{size_of, tiny}
use Rattle.triple.specs.Nine.{at}
use Rattle.triple.proofs.Signs.{plain_larger, plain_size}
use Rattle.startup.specs.declared.Widest.{Widest}
use Rattle.startup.specs.Passes.{widened, calm_at, is_settled}
use Rattle.conditions.specs.Conditions.{is_at_rest}
use Rattle.conditions.proofs.Resting.{rests_not}

-- ---- the passes do not stop
pub record PlainWidest (w : Widest) : Type 0 where
  pub delta : Plain w.delta
  pub mag : Plain w.mag

pub startup_goes_on : (tol : Float) (w : Widest) → PlainWidest w → le tol nought ≡ true → is_settled tol w ≡ false
unfolding is_settled
startup_goes_on tol w d h = not_below (div binary64 w.delta w.mag) tol (plain_div w.delta w.mag d.delta d.mag) (not_above tol h)

pub plain_widened : (w : Widest) (before after : Triple) → PlainWidest w → PlainWidest (widened w before after)
unfolding widened
plain_widened w before after h =
    record {
      delta = plain_larger w.delta (size_of (minus after before)) h.delta (plain_size (minus after before));
      mag = plain_larger w.mag (size_of after) h.mag (plain_size after);
    }

pub plain_calm : (a : List Triple) → PlainWidest (calm_at a)
unfolding calm_at tiny
plain_calm a = plain_widened (record { delta = nought; mag = tiny }) (at a 4) (at a 4) (record { delta = tt; mag = plain_round 1 (10 ^ 30) })

pub corrector_goes_on : (tol : Float) (before after : State) → le tol nought ≡ true → is_at_rest tol before after ≡ false
corrector_goes_on tol before after h = rests_not tol before after (not_above tol h)
