-- `up_to_epoch`.
use Rattle.std.proofs.Common.{arith}
use Rattle.std.proofs.lemmas.Bool.Decides.{nat_tests}
use Rattle.stored.specs.Layout.{up_to_epoch}
use Rattle.stored.proofs.layout.up_to_epoch.Goals as goal

pub returns : goal.returns
unfolding up_to_epoch
returns c = grind (arith, nat_tests)
