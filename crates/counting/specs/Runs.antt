-- Demand 3, said of runs: every list of calls from `start`, refused ones among them, each with room for the samples due at it.
-- The proof is `finishes_on_time` in proofs/Runs.antt; which rooms are such is said in Rooms.
use Rattle.std.specs.Prelude.{◌≡◌, ℕ, ◌+◌, ◌≤◌, ◌<◌, cond, ◌⊎◌, ◌≢◌, List, [], ◌∷◌, ℤ, nat_abs, eqb, length, Float}
use Rattle.triple.specs.declared.Triple.{Triple}
use Rattle.triple.specs.declared.Sample.{Sample}
use Rattle.refusals.specs.Numbers.{number_of}
use Rattle.refusals.specs.declared.Refusal.TheVariants.{NoQuestion, NotThatQuestion}
use Rattle.plan.specs.declared.Settings.{Settings}
use Rattle.run.specs.Samples.{Room, put_all}
use Rattle.gauss_jackson.specs.Answers.{started}
use Rattle.rules.specs.Walk.{Said, question, finished, refused, told, Call, Result}
use Rattle.rules.specs.Follows.{played}
use Rattle.counting.specs.Paths.{Claims, Each}
use Rattle.counting.specs.Counting.{span_of, most_before, on_time}

-- a call adds samples n to m - 1 to its room, each as claimed, and leaves every other number
pub record Adds (claim : ℕ → Float → Type 0) (n m : ℕ) (before after : Room) : Type 0 where
  pub samples : List Sample
  pub count : n + length samples ≡ m
  pub stored : after ≡ put_all n samples before
  pub each : Each claim n samples

-- after the end every call is told 7, stores none and changes nothing
unfoldable pub Over : List Call → List Result → Type 0
Over [] [] = Unit {0}
Over [] (r ∷ rs) = ⊥
Over (c ∷ cs) [] = ⊥
Over (c ∷ cs) (r ∷ rs) = (r.said ≡ refused (number_of NoQuestion)) × (r.stored ≡ 0) × (r.out ≡ c.out) × Over cs rs

-- what is told to a call with this number where question i is open, after e accepted answers, with n samples stored before the call and m after it:
-- to the open number a question, and then fewer than `most` answers are accepted; or the finished state as claimed, with evals the count of
-- accepted answers; to another number 8. Nothing else.
unfoldable pub Tells : Claims → (most i number e n m : ℕ) → Said → (further : ℕ → Type 0) → (same over : Type 0) → Type 0
Tells c most i number e n m (question j q) further same over = (number ≡ i) × (e + 1 < most) × further j
Tells c most i number e n m (finished t y evals steps startups) further same over = (number ≡ i) × (evals ≡ e + 1) × c.finish (e + 1) m t steps startups × over
Tells c most i number e n m (refused x) further same over = (x ≡ number_of NotThatQuestion) × (number ≢ i) × (m ≡ n) × same

-- calls and their results, where question i is open after e accepted answers and n samples: each call adds as many as it says that it stored
unfoldable pub Going : Claims → (most i e n : ℕ) → List Call → List Result → Type 0
Going c most i e n [] [] = Unit {0}
Going c most i e n [] (r ∷ rs) = ⊥
Going c most i e n (k ∷ ks) [] = ⊥
Going c most i e n (k ∷ ks) (r ∷ rs) =
    let m = n + r.stored in
    Adds c.sample n m k.out r.out
    × Tells c most i k.number e n m r.said (λ (j : ℕ). Going c most j (e + 1) m ks rs) (Going c most i e n ks rs) (Over ks rs)

-- "every question is answered": how many calls bring the number of the question that is open, refused calls in between passed over
abbrev pub open_after : ℕ → Said → ℕ
open_after i (question j q) = j
open_after i (finished t y evals steps startups) = i
open_after i (refused x) = i

unfoldable pub answers_in : ℕ → List Call → List Result → ℕ
answers_in i [] rs = 0
answers_in i (c ∷ cs) [] = 0
answers_in i (c ∷ cs) (r ∷ rs) = cond (eqb i c.number) 1 0 + answers_in (open_after i r.said) cs rs

-- "the run ends": one of the calls is told the finished state
abbrev pub IsFinished : Said → Type 0
IsFinished (question i q) = ⊥
IsFinished (finished t y evals steps startups) = Unit {0}
IsFinished (refused i) = ⊥

unfoldable pub Finishes : List Result → Type 0
Finishes [] = ⊥
Finishes (r ∷ rs) = IsFinished r.said ⊎ Finishes rs

pub record FinishesOnTime (s : Settings) (t0 tf : Float) (z0 zf hz : ℤ) (r0 v0 : Triple) (cs : List Call) : Type 0 where
  pub first : told (started s t0 tf r0 v0).outcome ≡ question 0 (record { t = t0; r = r0; v = v0 })
  pub then : Going (on_time s t0 tf z0 zf (nat_abs hz)) (most_before s (span_of z0 zf) (nat_abs hz)) 0 0 0 cs (played (started s t0 tf r0 v0).run cs)
  -- whoever answers every question comes to the end, within the upper bound
  pub ends : most_before s (span_of z0 zf) (nat_abs hz) ≤ answers_in 0 cs (played (started s t0 tf r0 v0).run cs) → Finishes (played (started s t0 tf r0 v0).run cs)
