-- `with_cost` is `with_cost`.
use Rattle.std.proofs.Common.{refl}
use Rattle.profile.specs.Start.{with_cost}
use Rattle.profile.proofs.with_cost.Goals as goal

pub returns : goal.returns
unfolding with_cost
returns c = refl
