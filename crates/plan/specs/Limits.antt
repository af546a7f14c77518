-- 01's limits of the settings, each in one place, and what the settings say of samples.
use Rattle.std.specs.Prelude.{ℕ, Bool, ◌&&◌, eqb, leb}
use Rattle.plan.specs.declared.Settings.{Settings}

-- "max_startup_iters and max_corrector_iters 0 to 100"
abbrev pub max_passes : ℕ
max_passes = 100

-- "max_steps 0 to 1,000,000"
abbrev pub max_steps : ℕ
max_steps = 1_000_000

-- the flag `samples` is a number too: 0 or 1
abbrev pub max_flag : ℕ
max_flag = 1

-- 5: "a setting over its limit"
unfoldable pub are_within_limits : Settings → Bool
are_within_limits s =
    leb s.max_startup_iters max_passes && leb s.max_corrector_iters max_passes && leb s.samples max_flag && leb s.max_steps max_steps

unfoldable pub wants_samples : Settings → Bool
wants_samples s = eqb s.samples 1
