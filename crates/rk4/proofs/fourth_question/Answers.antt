-- `fourth_question` is `fourth_question`, operation by operation.
use Rattle.rk4.specs.Rk4.{fourth_question}
use Rattle.rk4.proofs.fourth_question.Goals as goal

pub returns : goal.returns
unfolding fourth_question
returns c = simp (c.step_on-v.ensures, c.plus-r.ensures, c.times.ensures, c.half_on.ensures)
