-- 01, "Numbered answers" (defaults) and "Startup" (the step): what a start makes of its arguments.
use Rattle.std.specs.Prelude.{ℕ, ◌^◌, Bool, false, ◌||◌, cond, pos, Float}
use Rattle.std.specs.Float.{binary64}
use Rattle.std.specs.Float.Ieee.{round, neg, sub, mul, div, lt, le, eq, of_int}
use Rattle.triple.specs.Arithmetic.{nought}
use Rattle.triple.specs.Size.{absolute}
use Rattle.plan.specs.declared.Settings.{Settings}
use Rattle.plan.specs.declared.Plan.{Plan}

-- the double nearest 10 ^ -n
abbrev pub decimal : ℕ → Float
decimal n = round binary64 false 1 (10 ^ n)

-- "Defaults as in the module: h 60, corrector passes 2, startup passes 12, tolerances 1e-13, max_steps 1,000,000, no samples."
unfoldable pub default_settings : Settings
default_settings =
    record {
      h = of_int binary64 (pos 60);
      corrector_tol = decimal 13;
      startup_tol = decimal 13;
      max_corrector_iters = 2;
      max_startup_iters = 12;
      max_steps = 1_000_000;
      samples = 0;
    }

-- "dir = 1 if tf >= t0, else -1 (a NaN gives -1)"
unfoldable pub direction_of : Float → Float → Float
direction_of t0 tf = cond (le t0 tf) (of_int binary64 (pos 1)) (neg (of_int binary64 (pos 1)))

-- "h = abs(setting)·dir"
unfoldable pub plan_of : Settings → Float → Float → Plan
plan_of s t0 tf = record { settings = s; t0 = t0; tf = tf; h = mul binary64 (absolute s.h) (direction_of t0 tf) }

-- 1: "h is zero, or abs(span/h) is below 8"
unfoldable pub is_too_near : Plan → Bool
is_too_near p = eq p.h nought || lt (absolute (div binary64 (sub binary64 p.tf p.t0) p.h)) (of_int binary64 (pos 8))
