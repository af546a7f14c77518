-- The clock alone decides: how a run ends, in how many steps, and when its samples stand, is worked out from start, end and step without a
-- single acceleration; and the answers are counted by 01's "Counting beforehand". For any numbers, whole or not. The proof is `by_the_clock`.
use Rattle.std.specs.Prelude.{◌≡◌, ℕ, zero, suc, ◌+◌, ◌-◌, ◌*◌, ◌≤◌, true, cond, eqb, ltb, Float}
use Rattle.std.specs.Float.{binary64}
use Rattle.std.specs.Float.Ieee.{add, le}
use Rattle.triple.specs.declared.Triple.{Triple}
use Rattle.triple.specs.Arithmetic.{nought}
use Rattle.startup.specs.Points.{time_at}
use Rattle.plan.specs.declared.Plan.{Plan}
use Rattle.plan.specs.Limits.{wants_samples}
use Rattle.conditions.specs.Conditions.{is_due, is_tail}
use Rattle.rules.specs.Rules.{integrate}
use Rattle.rules.specs.Asked.{clock}
use Rattle.counting.specs.Paths.{Claims, Always}

-- how the steps end
pub data Fate : Type 0 where
  arrives : Float → (steps : ℕ) → Fate  -- the clock has reached or passed the end
  tails : (steps : ℕ) → Fate  -- after so many steps the tail follows, one step more
  runs_out : (steps : ℕ) → Fate  -- max_steps is reached and a further step is due

-- "While (tf - t)·dir > 0: test max_steps; [..] If abs(rem) - abs(h) < -1e-12·abs(h): [tail] Else: [..] t = t + h, one step"
unfoldable pub fate_from : (left : ℕ) → Plan → Float → ℕ → Fate
fate_from zero p t n = cond (is_due p t) (runs_out n) (arrives t n)
fate_from (suc left) p t n =
    cond (is_due p t) (cond (is_tail p t) (tails n) (fate_from left p (add binary64 t p.h) (n + 1))) (arrives t n)

-- from the end of the startup: "t = t0 + 4·h, steps = 4"
unfoldable pub fate_of : Plan → Fate
fate_of p = fate_from (p.settings.max_steps - 4) p (time_at p.t0 p.h 8) 4

-- all steps that are made, the tail's too
unfoldable pub steps_of : Fate → ℕ
steps_of (arrives t n) = n
steps_of (tails n) = n + 1
steps_of (runs_out n) = n

-- P: the steps after the startup and before the tail
unfoldable pub plain_steps : Fate → ℕ
plain_steps (arrives t n) = n - 4
plain_steps (tails n) = n - 4
plain_steps (runs_out n) = n - 4

-- T(4+d): RK4's four questions, "with samples one more"
unfoldable pub tail_answers : Plan → Fate → ℕ
tail_answers p (arrives t n) = 0
tail_answers p (tails n) = 4 + cond (wants_samples p.settings) 1 0
tail_answers p (runs_out n) = 0

-- "Accepted answers lie from 41 + 8S + P + T(4+d) to 41 + 8S + P(1+C) + T(4+d), where S is the startup passes made."
unfoldable pub least : Plan → Fate → ℕ → ℕ
least p f startups = 41 + 8 * startups + plain_steps f + tail_answers p f

unfoldable pub most : Plan → Fate → ℕ → ℕ
most p f startups = 41 + 8 * startups + plain_steps f * (1 + p.settings.max_corrector_iters) + tail_answers p f

-- "S as 1 (0 if max_startup_iters is 0)"
unfoldable pub fewest_startups : Plan → ℕ
fewest_startups p = cond (eqb p.settings.max_startup_iters 0) 0 1

-- "both tolerances zero or less"
pub record NeverStops (p : Plan) : Type 0 where
  pub startup : le p.settings.startup_tol nought ≡ true
  pub corrector : le p.settings.corrector_tol nought ≡ true

-- e answers, n samples and so many startup passes, at an end of this fate
pub record Counted (p : Plan) (f : Fate) (e n startups : ℕ) : Type 0 where
  pub fewest : fewest_startups p ≤ startups
  pub limited : startups ≤ p.settings.max_startup_iters
  pub at_least : least p f startups ≤ e
  pub at_most : e ≤ most p f startups
  pub samples : n ≡ cond (wants_samples p.settings) (steps_of f + 1) 0
  pub exactly : NeverStops p → (startups ≡ p.settings.max_startup_iters) × (e ≡ most p f startups)

-- the points 4 to 8 of the startup, then the clock
unfoldable pub grid_time : Plan → ℕ → Float
grid_time p n = cond (ltb n 4) (time_at p.t0 p.h (n + 4)) (clock p (n - 4))

-- the time of sample n: after a tail the last stands at tf
unfoldable pub sample_time : Plan → Fate → ℕ → Float
sample_time p (arrives t m) n = grid_time p n
sample_time p (tails m) n = cond (eqb n (m + 1)) p.tf (grid_time p n)
sample_time p (runs_out m) n = grid_time p n

-- the finished state of this fate
abbrev pub EndsBy : Plan → Fate → Float → ℕ → Type 0
EndsBy p (arrives u m) t steps = (t ≡ u) × (steps ≡ m)
EndsBy p (tails m) t steps = (t ≡ p.tf) × (steps ≡ m + 1)
EndsBy p (runs_out m) t steps = ⊥

abbrev pub RunsOut : Fate → Type 0
RunsOut (arrives u m) = ⊥
RunsOut (tails m) = ⊥
RunsOut (runs_out m) = Unit {0}

unfoldable pub clockwork : Plan → Fate → Claims
clockwork p f =
    record {
      sample = λ (n : ℕ) (t : Float). (wants_samples p.settings ≡ true) × (n ≤ steps_of f) × (t ≡ sample_time p f n);
      finish = λ (e n : ℕ) (t : Float) (steps startups : ℕ). EndsBy p f t steps × Counted p f e n startups;
      excess = λ (e n : ℕ). RunsOut f × ((startups : ℕ) × Counted p f e n startups);
    }

abbrev pub ByTheClock : Plan → Triple → Triple → Type 0
ByTheClock p r0 v0 = Always (clockwork p (fate_of p)) 0 0 (integrate p r0 v0)
