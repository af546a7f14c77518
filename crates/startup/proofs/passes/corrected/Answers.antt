-- `passes::corrected` is `pass_places`.
use Rattle.startup.specs.Points.{state_at}
use Rattle.startup.specs.Passes.{pass_places, points_on, points_back}
use Rattle.startup.proofs.passes.corrected.Goals as goal

pub returns : goal.returns
unfolding pass_places points_on points_back state_at
returns c = simp (c.points_on.ensures, c.points_back.ensures, c.at_epoch-sums.ensures, c.state_at-p4.ensures)
