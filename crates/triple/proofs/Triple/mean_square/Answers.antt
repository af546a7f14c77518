-- `Triple::mean_square` is `mean_square`, operation by operation.
use mathlib.Core.Path.{refl}
use lib.Ieee.{of_bits}
use Rattle.triple.specs.Size.{square, mean_square}
use Rattle.triple.proofs.Triple.mean_square.Goals as goal

pub returns : goal.returns
unfolding mean_square square of_bits
returns c = refl
