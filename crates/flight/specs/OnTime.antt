-- The clock of a forecast. For every start its samples are numbered 0, 1, 2, .. and stand where the clock alone puts them. For whole numbers within
-- 01's bounds, with samples wanted, demand 3: unless it ends by 15 it tells K + 1 samples and ends well.
-- The proofs are `story_by_the_clock` and `story_on_time` in proofs/OnTime.antt.
use Rattle.std.specs.Prelude.{◌≡◌, ◌≢◌, ℕ, ◌+◌, true, List, [], ◌∷◌, ℤ, nat_abs, length, Float}
use Rattle.triple.specs.declared.Triple.{Triple}
use Rattle.refusals.specs.Numbers.{number_of}
use Rattle.refusals.specs.declared.Refusal.TheVariants.{TooLow}
use Rattle.plan.specs.declared.Settings.{Settings}
use Rattle.plan.specs.Limits.{wants_samples}
use Rattle.plan.specs.Plan.{plan_of}
use Rattle.whole.specs.Whole.{IsWhole}
use Rattle.counting.specs.Clockwork.{fate_of, sample_time}
use Rattle.counting.specs.Counting.{span_of, steps_for, when_for, Bounds}
use Rattle.flight.specs.Story.{Entry, Story, story_of}

-- the samples are numbered from n on, and each is as claimed, by its number and its time
unfoldable pub InOrder : (claim : ℕ → Float → Type 0) → (n : ℕ) → List Entry → Type 0
InOrder claim n [] = Unit {0}
InOrder claim n (e ∷ es) = (e.number ≡ n) × claim n e.sample.t × InOrder claim (n + 1) es

abbrev pub StoryByTheClock : Type 0
StoryByTheClock =
    (s : Settings) (t0 tf : Float) (r0 v0 : Triple)
    → InOrder (λ (n : ℕ) (t : Float). t ≡ sample_time (plan_of s t0 tf) (fate_of (plan_of s t0 tf)) n) 0 (story_of s t0 tf r0 v0).samples

-- sample n stands exactly n steps from the start, sample K at the end
pub record TellsOnTime (z0 zf : ℤ) (step : ℕ) (st : Story) : Type 0 where
  pub each : InOrder (λ (n : ℕ) (t : Float). IsWhole t (when_for z0 zf step n)) 0 st.samples
  pub ends_well : st.ending ≢ number_of TooLow → st.ending ≡ 0
  pub all : st.ending ≢ number_of TooLow → length st.samples ≡ steps_for (span_of z0 zf) step + 1

abbrev pub StoryOnTime : Type 0
StoryOnTime =
    (s : Settings) (t0 tf : Float) (z0 zf hz : ℤ) (r0 v0 : Triple) → Bounds s t0 tf z0 zf hz → wants_samples s ≡ true → TellsOnTime z0 zf (nat_abs hz) (story_of s t0 tf r0 v0)
