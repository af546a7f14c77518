-- 02, W-207: what a forecast tells, by the rules' tree of questions and the pull of a point mass: the samples with their numbers, and how it
-- ends. Nothing here knows of runs, rooms or calls.
use Rattle.std.specs.Prelude.{ℕ, ◌+◌, cond, List, [], ◌∷◌, ◌++◌, Float, Ok, Err}
use Rattle.triple.specs.declared.Triple.{Triple}
use Rattle.triple.specs.declared.Sample.{Sample}
use Rattle.refusals.specs.Numbers.{number_of}
use Rattle.refusals.specs.declared.Refusal.TheVariants.{MaxStepsExceeded, TooLow}
use Rattle.plan.specs.declared.Settings.{Settings}
use Rattle.plan.specs.declared.Plan.{Plan}
use Rattle.plan.specs.Plan.{plan_of}
use Rattle.plan.specs.Verdict.{Verdict, verdict_on}
use Rattle.rules.specs.Rules.{Course, asks, stores, ends, exceeds, integrate}
use Rattle.point_mass.specs.Force.{distance, is_too_low, pull}

-- a sample and its number
pub record Entry : Type 0 where
  pub number : ℕ
  pub sample : Sample

-- the samples in order, and the ending: 0 where the run comes to its end, else the refusal's number
pub record Story : Type 0 where
  pub samples : List Entry
  pub ending : ℕ

-- a row of samples, the first of them sample n
unfoldable pub numbered : ℕ → List Sample → List Entry
numbered n [] = []
numbered n (s ∷ ss) = record { number = n; sample = s } ∷ numbered (n + 1) ss

abbrev pub nothing_more : (ending : ℕ) → Story
nothing_more n = record { samples = []; ending = n }

abbrev pub before : List Entry → Story → Story
before told s = record { samples = told ++ s.samples; ending = s.ending }

-- each question is answered by the pull there; "15 ends the run when a question's distance is below 1 km or NaN"
unfoldable pub story : Course → Story
story (asks q k) = cond (is_too_low (distance q.r)) (nothing_more (number_of TooLow)) (story (k (pull q.r)))
story (stores n ss c) = before (numbered n ss) (story c)
story (ends t y steps startups) = nothing_more 0
story exceeds = nothing_more (number_of MaxStepsExceeded)

-- of a start: its refusal, or the story of the whole integration
unfoldable pub story_by : Verdict → Plan → Triple → Triple → Story
story_by (Ok u) p r0 v0 = story (integrate p r0 v0)
story_by (Err e) p r0 v0 = nothing_more (number_of e)

unfoldable pub story_of : Settings → (t0 tf : Float) → (r0 v0 : Triple) → Story
story_of s t0 tf r0 v0 = story_by (verdict_on (plan_of s t0 tf)) (plan_of s t0 tf) r0 v0
