-- 02, W-207: all that `forecast` prints for an input. "It reads t0, tf, h, r and v from standard input, nine lines of sixteen hex digits [..], other
-- settings by default with samples [..]. It prints a line per sample: its number in decimal and ten floats in the same hex [..]; a refusal's number is the
-- last line."; "a missing, extra or misshapen input line prints 19".
use Rattle.std.specs.Prelude.{ℕ, ◌+◌, Option, None, Some, cond, List, [], ◌∷◌, ◌++◌, eqb, get_or, Float}
use Rattle.std.specs.Float.{binary64}
use Rattle.std.specs.Float.Ieee.{of_bits}
use Rattle.triple.specs.declared.Triple.{Triple}
use Rattle.triple.specs.declared.Sample.{Sample}
use Rattle.refusals.specs.Numbers.{number_of}
use Rattle.refusals.specs.declared.Refusal.TheVariants.{InputLine}
use Rattle.plan.specs.declared.Settings.{Settings}
use Rattle.plan.specs.Plan.{default_settings}
use Rattle.lines.specs.Lines.{sample_line, refusal_line}
use Rattle.lines.specs.Nine.{read_nine}
use Rattle.flight.specs.Story.{Entry, Story, story_of}

-- ---- a story in lines
unfoldable pub ten_of : Sample → List Float
ten_of s = s.t ∷ s.r.x ∷ s.r.y ∷ s.r.z ∷ s.v.x ∷ s.v.y ∷ s.v.z ∷ s.a.x ∷ s.a.y ∷ s.a.z ∷ []

unfoldable pub entry_lines : List Entry → List ℕ
entry_lines [] = []
entry_lines (e ∷ es) = sample_line e.number (ten_of e.sample) ++ entry_lines es

unfoldable pub ending_line : ℕ → List ℕ
ending_line ending = cond (eqb ending 0) [] (refusal_line ending)

unfoldable pub story_lines : Story → List ℕ
story_lines s = entry_lines s.samples ++ ending_line s.ending

-- ---- an input's nine numbers
abbrev pub float_at : List ℕ → ℕ → Float
float_at numbers i = of_bits binary64 (get_or numbers i 0)

abbrev pub triple_at : List ℕ → ℕ → Triple
triple_at numbers i = record { x = float_at numbers i; y = float_at numbers (i + 1); z = float_at numbers (i + 2) }

-- the default settings, but for the step and with samples
unfoldable pub settings_with : Float → Settings
settings_with h =
    record {
      h = h;
      corrector_tol = default_settings.corrector_tol;
      startup_tol = default_settings.startup_tol;
      max_corrector_iters = default_settings.max_corrector_iters;
      max_startup_iters = default_settings.max_startup_iters;
      max_steps = default_settings.max_steps;
      samples = 1;
    }

-- t0, tf, h, r, v
unfoldable pub story_for : List ℕ → Story
story_for numbers = story_of (settings_with (float_at numbers 2)) (float_at numbers 0) (float_at numbers 1) (triple_at numbers 3) (triple_at numbers 6)

-- ---- all that is printed
unfoldable pub printed_of : Option (List ℕ) → List ℕ
printed_of None = refusal_line (number_of InputLine)
printed_of (Some numbers) = story_lines (story_for numbers)

unfoldable pub printed : List ℕ → List ℕ
printed text = printed_of (read_nine text)
