-- `fixed_of` is `fixed_of`, operation by operation.
use Rattle.sums.specs.Sums.{fixed_of}
use Rattle.sums.proofs.fixed_of.Goals as goal

pub returns : goal.returns
unfolding fixed_of
returns c = simp (c.fixed_sum-fb.ensures, c.fixed_sum-fa.ensures)
