-- `is_ready` is `is_ready` of an open question.
use mathlib.Core.Path.{sym, ◌∙◌}
use Rattle.run.specs.Samples.{has_place}
use Rattle.flight.specs.Flight.{is_ready}
use Rattle.flight.proofs.is_ready.Goals as goal

pub returns-then-has_place : goal.returns-then-has_place
unfolding is_ready has_place
returns-then-has_place c = rw (sym c.has_place.ensures ∙ c.if-has_place.true)

pub returns-else-has_place : goal.returns-else-has_place
unfolding is_ready has_place
returns-else-has_place c = rw (sym c.has_place.ensures ∙ c.if-has_place.false) c.if-has_place.false
