-- What the code needs to know of span and step, so that no count wraps: what its private helpers ask for and hand on. No promise to a caller cites
-- this file.
use Rattle.std.specs.Prelude.{◌≡◌, ℕ, ◌*◌, ◌≤◌, true, false, Float}
use Rattle.plan.specs.declared.Settings.{Settings}
use Rattle.plan.specs.Plan.{plan_of, is_too_near}
use Rattle.counting.specs.Counting.{steps_for}
use Rattle.profile.specs.Wholes.{are_whole}
use Rattle.profile.specs.Costs.{span_in, step_in}

-- 2^51: two times within 01's bounds lie no farther apart
abbrev pub far_apart : ℕ
far_apart = 2251799813685248

-- within 01's bounds
abbrev pub Countable : (span step : ℕ) → Type 0
Countable span step = (1 ≤ step) × (step ≤ 1_000_000_000) × (span ≤ far_apart)

-- eight steps at least, and K of them
abbrev pub Far : (span step steps : ℕ) → Type 0
Far span step steps = Countable span step × (8 * step ≤ span) × (steps ≡ steps_for span step)

-- the same of a start: past 13 and 1
abbrev pub Apart : Settings → (t0 tf : Float) → (steps : ℕ) → Type 0
Apart s t0 tf steps =
    (are_whole t0 tf s.h ≡ true) × (is_too_near (plan_of s t0 tf) ≡ false) × (steps ≡ steps_for (span_in t0 tf) (step_in s))
