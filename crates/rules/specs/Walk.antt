-- A line of calls against a tree of questions: what each call is told, and what its room then holds. By 01's numbers and values;
-- nothing here knows how a run is kept.
use Rattle.std.specs.Prelude.{ℕ, ◌+◌, ◌%◌, cond, List, [], ◌∷◌, eqb, length, Float, Ok, Err}
use Rattle.triple.specs.declared.Triple.{Triple}
use Rattle.triple.specs.declared.State.{State}
use Rattle.triple.specs.declared.Point.{Point}
use Rattle.refusals.specs.Numbers.{number_of}
use Rattle.refusals.specs.declared.Refusal.TheVariants.{MaxStepsExceeded, SampleRoom, NoQuestion, NotThatQuestion}
use Rattle.plan.specs.declared.Settings.{Settings}
use Rattle.plan.specs.declared.Plan.{Plan}
use Rattle.plan.specs.Plan.{plan_of}
use Rattle.plan.specs.Verdict.{Verdict, verdict_on}
use Rattle.run.specs.Limits.{numbering}
use Rattle.run.specs.Samples.{Room, tens, has_room, put_all}
use Rattle.gauss_jackson.specs.declared.Outcome.{Outcome}
use Rattle.gauss_jackson.specs.declared.Outcome.TheVariants.{Ask, Done, Refused}
use Rattle.rules.specs.Rules.{Course, asks, stores, ends, exceeds, integrate}

-- what a call is told
pub data Said : Type 0 where
  question : ℕ → Point → Said  -- its number, time, position and velocity
  finished : Float → State → ℕ → ℕ → ℕ → Said  -- t, r and v, evals, steps, startup_iters
  refused : ℕ → Said  -- 01's number of the refusal

-- the outcome of the code, by 01's numbers and values
unfoldable pub told : Outcome → Said
told (Ask q) = question q.number (record { t = q.t; r = q.r; v = q.v })
told (Done s) = finished s.t (record { r = s.r; v = s.v }) s.evals s.steps s.startup_iters
told (Refused e) = refused (number_of e)

-- one call of `answer`: the number and the acceleration that it brings, and the room that it lends
pub record Call : Type 0 where
  pub number : ℕ
  pub a : Triple
  pub out : Room

-- what the caller has of it: what it is told, how many samples it stored, and the room
pub record Result : Type 0 where
  pub said : Said
  pub stored : ℕ
  pub out : Room

-- where a line stands: question n is open after e accepted answers, or none is
pub data Line : Type 0 where
  open_at : (n e : ℕ) → Point → (Triple → Course) → Line
  over : Line

pub record Stop : Type 0 where
  pub said : Said
  pub stored : ℕ
  pub out : Room
  pub line : Line

-- m samples more were stored
unfoldable pub after_storing : ℕ → Stop → Stop
after_storing m s = record { said = s.said; stored = m + s.stored; out = s.out; line = s.line }

-- on through the tree to the next question or the end, after e accepted answers; the next question is number n.
-- "6 wherever samples are due [..], before 2": samples that do not all fit end the line, and nothing of this call is written
unfoldable pub settle : Course → (n e : ℕ) → Room → Stop
settle (asks q k) n e out = record { said = question n q; stored = 0; out = out; line = open_at n e q k }
settle (stores i ss c) n e out =
    cond (has_room i (length ss) out)
    (after_storing (length ss) (settle c n e (put_all i ss out)))
    (record { said = refused (number_of SampleRoom); stored = 0; out = out; line = over })
settle (ends t y steps startups) n e out = record { said = finished t y e steps startups; stored = 0; out = out; line = over }
settle exceeds n e out = record { said = refused (number_of MaxStepsExceeded); stored = 0; out = out; line = over }

-- one call: the right number moves the line on, and another leaves it; where no question is open it is 7.
-- "Numbers start at 0 and rise by one for each accepted answer; after 65,535 the next question is numbered 0."
unfoldable pub called : Line → Call → Stop
called (open_at n e q k) c =
    cond (eqb n c.number)
    (settle (k c.a) ((n + 1) % numbering) (e + 1) c.out)
    (record { said = refused (number_of NotThatQuestion); stored = 0; out = c.out; line = open_at n e q k })
called over c = record { said = refused (number_of NoQuestion); stored = 0; out = c.out; line = over }

unfoldable pub walk : Line → List Call → List Result
walk l [] = []
walk l (c ∷ cs) = record { said = (called l c).said; stored = (called l c).stored; out = (called l c).out } ∷ walk (called l c).line cs

-- a start, to which no room is lent: its refusal, or else question 0, the first of the tree
abbrev pub no_room : Room
no_room = tens 0 []

unfoldable pub begin_by : Verdict → Plan → Triple → Triple → Stop
begin_by (Ok u) p r0 v0 = settle (integrate p r0 v0) 0 0 no_room
begin_by (Err e) p r0 v0 = record { said = refused (number_of e); stored = 0; out = no_room; line = over }

unfoldable pub begin : Settings → Float → Float → Triple → Triple → Stop
begin s t0 tf r0 v0 = begin_by (verdict_on (plan_of s t0 tf)) (plan_of s t0 tf) r0 v0
