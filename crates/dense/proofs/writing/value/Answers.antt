-- `value` is `value_at`.
use Rattle.dense.specs.Interpolation.{value_at}
use Rattle.dense.proofs.writing.value.Goals as goal

pub returns : goal.returns
unfolding value_at
returns c = simp (c.quintic_hermite.ensures, c.sample_after.ensures, c.sample_of.ensures)
