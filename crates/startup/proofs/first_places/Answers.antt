-- `first_places` is `first_places`.
use Rattle.startup.specs.Points.{first_places}
use Rattle.startup.proofs.first_places.Goals as goal

pub returns : goal.returns
unfolding first_places
returns c = simp (c.replaced-2.ensures, c.zeros-2.ensures, c.replaced.ensures, c.zeros.ensures)
