-- `force::distance` is `distance`.
use Rattle.triple.specs.Size.{square}
use Rattle.point_mass.specs.Force.{distance}
use Rattle.point_mass.proofs.force.distance.Goals as goal

pub returns : goal.returns
unfolding distance square
returns c = c.root.ensures
