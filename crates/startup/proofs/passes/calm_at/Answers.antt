-- `passes::calm_at` is `calm_at`.
use lib.Ieee.{of_bits, round}
use Rattle.triple.specs.Size.{tiny}
use Rattle.startup.specs.Passes.{calm_at}
use Rattle.startup.proofs.passes.calm_at.Goals as goal

pub returns : goal.returns
unfolding calm_at tiny of_bits round
returns c = simp c.widen.ensures
