-- `second_question` is `second_question`, operation by operation.
use lib.Ieee.{of_bits}
use Rattle.rk4.specs.Rk4.{second_question}
use Rattle.rk4.proofs.second_question.Goals as goal

pub returns : goal.returns
unfolding second_question of_bits
returns c = simp (c.half_on-v.ensures, c.plus-r.ensures, c.times.ensures)
