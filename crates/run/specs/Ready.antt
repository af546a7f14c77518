-- What the code needs to know of a sound run, so that no index runs out and no count wraps: the `requires` of private helpers. No promise to a
-- caller cites this file.
use Rattle.std.specs.Prelude.{◌≤◌, ◌<◌}
use Rattle.plan.specs.declared.Settings.{Settings}
use Rattle.plan.specs.Limits.{max_passes, max_steps}
use Rattle.run.specs.declared.Body.{Body}
use Rattle.run.specs.declared.waiting.Waiting.{Waiting}
use Rattle.run.specs.declared.waiting.Waiting.TheVariants.{Epoch, Forward, Backward, Survey, Pass, Step, Tail, TailSample, Ended, Unknown}
use Rattle.run.specs.Limits.{ample}

-- the settings' limits, as numbers
pub record Small (s : Settings) : Type 0 where
  pub startups : s.max_startup_iters ≤ max_passes
  pub passes : s.max_corrector_iters ≤ max_passes
  pub steps : s.max_steps ≤ max_steps

abbrev pub Ready : Waiting → Body → Type 0
Ready Epoch b = Unit {0}
Ready (Forward i s) b = i < 8
Ready (Backward i s) b = 0 < i
Ready (Survey i) b = Unit {0}
Ready (Pass i) b = b.startup_iters < ample
Ready (Step c) b = (b.plan.settings.max_corrector_iters ≤ max_passes) × (b.track.steps < ample)
Ready (Tail s) b = b.track.steps < ample
Ready TailSample b = b.track.steps < ample
Ready Ended b = Unit {0}
Ready Unknown b = Unit {0}
