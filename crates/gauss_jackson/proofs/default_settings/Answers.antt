-- `default_settings` is `default_settings`.
use Rattle.std.proofs.Common.{refl}
use lib.Ieee.{of_bits, of_int, round}
use Rattle.plan.specs.Plan.{default_settings}
use Rattle.gauss_jackson.proofs.default_settings.Goals as goal

pub returns : goal.returns
unfolding default_settings of_bits of_int round
returns c = refl
