-- `steps_for` is `steps_for`.
use Rattle.std.proofs.Common.{refl}
use Rattle.counting.specs.Counting.{steps_for}
use Rattle.profile.proofs.costs.steps_for.Goals as goal

pub returns : goal.returns
unfolding steps_for
returns c = refl
