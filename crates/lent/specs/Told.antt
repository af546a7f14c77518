-- What an answer on a lent run tells: all that `answer` gives but the run.
use Rattle.gauss_jackson.specs.declared.Answered.{Answered}
use Rattle.lent.specs.declared.AnswerTold.{AnswerTold}

abbrev pub answer_told : Answered → AnswerTold
answer_told x = record { outcome = x.outcome; stored = x.stored }
