-- `is_known`.
use mathlib.Core.Path.{refl}
use Rattle.stored.specs.Taken.{is_known}
use Rattle.stored.proofs.judging.is_known.Goals as goal

pub returns : goal.returns
unfolding is_known
returns c = refl
