-- `is_tail` is `is_tail`.
use lib.Ieee.{of_bits, round, neg}
use Rattle.conditions.specs.Conditions.{is_tail}
use Rattle.conditions.proofs.is_tail.Goals as goal

pub returns : goal.returns
unfolding is_tail of_bits round neg
returns c = simp (c.abs-3.ensures, c.abs-2.ensures, c.abs.ensures, c.left_at.ensures)
