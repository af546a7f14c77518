-- `corrected` is `corrected_state`, operation by operation.
use Rattle.sums.specs.Sums.{corrected_state}
use Rattle.sums.proofs.corrected.Goals as goal

pub returns : goal.returns
unfolding corrected_state
returns c =
    simp (c.times-v.ensures, c.plus-6.ensures, c.times-2.ensures, c.plus-5.ensures, c.plus-4.ensures, c.times-r.ensures, c.plus-3.ensures, c.times.ensures, c.plus-2.ensures, c.plus.ensures, c.entry-b88.ensures, c.entry-a88.ensures)
