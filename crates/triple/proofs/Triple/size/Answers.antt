-- `Triple::size` is `size_of`.
use Rattle.triple.specs.Size.{size_of}
use Rattle.triple.proofs.Triple.size.Goals as goal

pub returns : goal.returns
unfolding size_of
returns c = simp (c.root.ensures, c.mean_square.ensures)
