-- `fly_on` is `flown_on`: what is left to do, from the flight with its parts in their places, leads where the whole leads.
use mathlib.Core.Path.{◌≡◌}
use Prim.Native.Nat.{◌-◌}
use lib.ListN.{length}
use Rattle.flight.specs.Flight.{piece, flown_by}
use Rattle.flight.specs.Parts.{together}
use Rattle.flight.proofs.fly_on.Given as goal

abbrev pub invariant-loop : goal.invariant-loop
invariant-loop l = (length l.out ≡ length l.initial.out) × (flown_by (piece - l.counter) l.from (together l.f l.parts) l.out ≡ flown_by piece l.from l.initial.f l.initial.out)
