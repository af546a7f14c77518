-- `no_cost` is `no_cost`.
use Rattle.std.proofs.Common.{refl}
use Rattle.profile.specs.Costs.{no_cost}
use Rattle.profile.proofs.no_cost.Goals as goal

pub returns : goal.returns
unfolding no_cost
returns c = refl
