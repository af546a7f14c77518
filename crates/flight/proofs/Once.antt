-- One question answered: too low, and not.
use mathlib.Core.Path.{◌≡◌}
use Prim.Native.Nat.{ℕ}
use mathlib.Core.List.{List}
use lib.Ieee.{Float}
use Rattle.std.specs.Prelude.{Some, None}
use Rattle.triple.specs.declared.Triple.{Triple}
use Rattle.gauss_jackson.specs.declared.Question.{Question}
use Rattle.point_mass.specs.Force.{answer_at}
use Rattle.flight.specs.declared.Phase.TheVariants.{Asks}
use Rattle.flight.specs.declared.Flight.{Flight}
use Rattle.flight.specs.Flight.{landed_low, answered_by, pulled_by, answered_in, answered_once}

module _ (from : ℕ) (f : Flight) (numbers : List Float) (q : Question) (e : f.phase ≡ Asks q) where
  pub once_low : answer_at q.r ≡ None → answered_once from f numbers ≡ record { flight = landed_low f; out = numbers }
  unfolding answered_once answered_in pulled_by
  once_low h = rw (e, h)

  pub once_high : (a : Triple) → answer_at q.r ≡ Some a → answered_once from f numbers ≡ answered_by q a from f numbers
  unfolding answered_once answered_in pulled_by
  once_high a h = rw (e, h)
