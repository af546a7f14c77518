-- What each waiting point asks: a time, a position and a velocity.
use Rattle.std.specs.Prelude.{ℕ, Float}
use Rattle.std.specs.Float.Ieee.{neg}
use Rattle.triple.specs.declared.Point.{Point}
use Rattle.triple.specs.Arithmetic.{nought, zeros}
use Rattle.triple.specs.Nine.{at}
use Rattle.rk4.specs.Rk4.{second_question, third_question, fourth_question}
use Rattle.startup.specs.Points.{point_at}
use Rattle.run.specs.declared.Body.{Body}
use Rattle.run.specs.declared.Slopes.{Slopes}
use Rattle.run.specs.declared.waiting.Stage.{Stage}
use Rattle.run.specs.declared.waiting.Stage.TheVariants.{First, Second, Third, Fourth}
use Rattle.run.specs.declared.waiting.Waiting.{Waiting}
use Rattle.run.specs.declared.waiting.Waiting.TheVariants.{Epoch, Forward, Backward, Survey, Pass, Step, Tail, TailSample, Ended, Unknown}
use Rattle.conditions.specs.Conditions.{left_at}
use Rattle.run.specs.Tracks.{step_point, tail_from, final_point}

-- the four questions of an RK4 step from p over h
unfoldable pub stage_question : Stage → Point → Float → Slopes → Point
stage_question First p h l = p
stage_question Second p h l = second_question p h l.l1
stage_question Third p h l = third_question p h l.l1 l.l2
stage_question Fourth p h l = fourth_question p h l.l2 l.l3

-- point i of the startup
unfoldable pub grid_point : Body → ℕ → Point
grid_point b i = point_at b.plan.t0 b.plan.h b.places i

-- the epoch, at t0 as it came
unfoldable pub epoch_point : Body → Point
epoch_point b = record { t = b.plan.t0; r = at b.places.r 4; v = at b.places.v 4 }

-- a step's end
unfoldable pub end_point : Body → Point
end_point b = step_point b.plan b.track b.trial.state

-- the tail's end
unfoldable pub last_point : Body → Point
last_point b = final_point b.plan b.trial.state

unfoldable pub no_point : Point
no_point = record { t = nought; r = zeros; v = zeros }

unfoldable pub question_at : Waiting → Body → Point
question_at Epoch b = epoch_point b
question_at (Forward i s) b = stage_question s (grid_point b i) b.plan.h b.slopes
question_at (Backward i s) b = stage_question s (grid_point b i) (neg b.plan.h) b.slopes
question_at (Survey i) b = grid_point b i
question_at (Pass i) b = grid_point b i
question_at (Step c) b = end_point b
question_at (Tail s) b = stage_question s (tail_from b.track) (left_at b.plan b.track.t) b.slopes
question_at TailSample b = last_point b
question_at Ended b = no_point
question_at Unknown b = no_point
