-- `still_zero`.
use mathlib.Core.Path.{refl}
use Rattle.stored.specs.Taken.{still_zero}
use Rattle.stored.proofs.judging.still_zero.Goals as goal

pub returns : goal.returns
unfolding still_zero
returns c = refl
