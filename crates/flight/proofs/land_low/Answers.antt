-- `land_low` is `landed_low`.
use mathlib.Core.Path.{refl}
use Rattle.flight.specs.Flight.{landed_low}
use Rattle.flight.proofs.land_low.Goals as goal

pub returns : goal.returns
unfolding landed_low
returns c = refl
