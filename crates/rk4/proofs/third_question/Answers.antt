-- `third_question` is `third_question`, operation by operation.
use lib.Ieee.{of_bits}
use Rattle.rk4.specs.Rk4.{third_question}
use Rattle.rk4.proofs.third_question.Goals as goal

pub returns : goal.returns
unfolding third_question of_bits
returns c = simp (c.half_on-v.ensures, c.plus-r.ensures, c.times.ensures, c.half_on.ensures)
