-- `force::pull_at` is `pull_at`: the literal has the pattern of mu.
use Rattle.point_mass.specs.Force.{pull_along, pull, pull_at}
use Rattle.point_mass.proofs.Nearest.{mu_pattern}
use Rattle.point_mass.proofs.force.pull_at.Goals as goal

pub returns : goal.returns
unfolding pull_at pull pull_along
returns c = simp (c.is_too_low.ensures, c.distance-d.ensures, mu_pattern)
