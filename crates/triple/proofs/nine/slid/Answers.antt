-- `slid` is `slid`.
use mathlib.Core.Path.{refl}
use Rattle.triple.specs.Nine.{slid}
use Rattle.triple.proofs.nine.slid.Goals as goal

pub returns : goal.returns
unfolding slid
returns c = refl
