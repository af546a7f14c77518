-- Nothing wraps, since the settings are within their limits.
use mathlib.Core.Path.{sym, ◌∙◌}
use native.Mathlib.Omega.{arith}
use Rattle.run.proofs.Counts.{to_started, few}
use Rattle.run.proofs.sound.step_counts.Goals as goal

pub overflow_mul-base : goal.overflow_mul-base
overflow_mul-base c = omega (arith, (to_started _ _ (sym c.is_started_up.ensures ∙ c.if-not-is_started_up.false)).most, c.requires.0.startups)

pub overflow_add-base : goal.overflow_add-base
overflow_add-base c = omega (arith, (to_started _ _ (sym c.is_started_up.ensures ∙ c.if-not-is_started_up.false)).most, c.requires.0.startups)

pub overflow_add-base-2 : goal.overflow_add-base-2
overflow_add-base-2 c = omega (arith, (to_started _ _ (sym c.is_started_up.ensures ∙ c.if-not-is_started_up.false)).most, c.requires.0.startups, c.requires.1)

pub overflow_add-base-3 : goal.overflow_add-base-3
overflow_add-base-3 c = omega (arith, (to_started _ _ (sym c.is_started_up.ensures ∙ c.if-not-is_started_up.false)).most, c.requires.0.startups, c.requires.0.steps, c.requires.1, c.if-n-s.false)

pub overflow_add-result-then-base-n : goal.overflow_add-result-then-base-n
overflow_add-result-then-base-n c =
    omega (arith, (to_started _ _ (sym c.is_started_up.ensures ∙ c.if-not-is_started_up.false)).most, c.requires.0.startups, c.requires.1, few _ _ c.if-n-s.false c.requires.0)
