-- `point_of` is `point_of`, operation by operation.
use Rattle.sums.specs.Sums.{point_of}
use Rattle.sums.proofs.point_of.Goals as goal

pub returns : goal.returns
unfolding point_of
returns c = simp (c.times-v.ensures, c.plus-2.ensures, c.sum_of-2.ensures, c.times-r.ensures, c.plus.ensures, c.sum_of.ensures)
