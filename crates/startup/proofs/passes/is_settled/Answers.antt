-- `passes::is_settled` is `is_settled`.
use mathlib.Core.Path.{refl}
use Rattle.startup.specs.Passes.{is_settled}
use Rattle.startup.proofs.passes.is_settled.Goals as goal

pub returns : goal.returns
unfolding is_settled
returns c = refl
