-- `take_off` is `taken_off`.
use Rattle.flight.specs.Flight.{taken_off}
use Rattle.flight.proofs.take_off.Goals as goal

pub returns : goal.returns
unfolding taken_off
returns c = rw (← c.start.ensures) c.flight_of.ensures
