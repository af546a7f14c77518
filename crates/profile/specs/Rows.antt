-- Some forecasts, as one table; the year is its first row. The proof is `rows` in proofs/Rows.antt.
use Rattle.std.specs.Prelude.{◌≡◌, ℕ, ◌+◌, ◌-◌, ◌*◌, ◌^◌, false, List, [], ◌∷◌, ℤ, pos, negsuc, neg_ℤ, Float, Result, Ok, Err}
use Rattle.std.specs.Float.{nan, fin, binary64}
use Rattle.std.specs.Float.Ieee.{neg, of_int}
use Rattle.triple.specs.Arithmetic.{nought}
use Rattle.refusals.specs.declared.Refusal.{Refusal}
use Rattle.profile.specs.declared.Cost.{Cost}
use Rattle.refusals.specs.declared.Refusal.TheVariants.{StepNotFinite, Setting, BlankDate, NotWhole, TooFewSteps}
use Rattle.plan.specs.declared.Settings.{Settings}
use Rattle.plan.specs.Limits.{max_steps}
use Rattle.plan.specs.Plan.{default_settings}
use Rattle.profile.specs.Costs.{forecast_of}

pub record Row : Type 0 where
  pub settings : Settings
  pub t0 : Float
  pub tf : Float
  pub expected : Result Cost Refusal

abbrev int : ℤ → Float
int z = of_int binary64 z

abbrev half : Float
half = fin false 1 (negsuc 0)

-- the defaults with another step and limit, and samples or none
abbrev set : Float → ℕ → ℕ → Settings
set h limit samples =
    record {
      h = h;
      corrector_tol = default_settings.corrector_tol;
      startup_tol = default_settings.startup_tol;
      max_corrector_iters = default_settings.max_corrector_iters;
      max_startup_iters = default_settings.max_startup_iters;
      max_steps = limit;
      samples = samples;
    }

abbrev row : Settings → Float → Float → Result Cost Refusal → Row
row s t0 tf x = record { settings = s; t0 = t0; tf = tf; expected = x }

abbrev cost : (steps samples numbers least most : ℕ) → Result Cost Refusal
cost steps samples numbers least most = Ok (record { steps = steps; samples = samples; numbers = numbers; least = least; most = most })

-- settings, start, end; steps, samples, numbers, least and most answers
abbrev pub some_rows : List Row
some_rows =
    -- the year of one-minute steps, with samples; without; and with max_steps at K, one below it, and a second more on the way
    row (set (int (pos 60)) max_steps 1) (int (pos 0)) (int (pos 31_536_000)) (cost 525_600 525_601 5_256_010 525_645 1_576_925)
    ∷ row default_settings (int (pos 0)) (int (pos 31_536_000)) (cost 525_600 0 0 525_645 1_576_925)
    ∷ row (set (int (pos 60)) 525_600 1) (int (pos 0)) (int (pos 31_536_000)) (cost 525_600 525_601 5_256_010 525_645 1_576_925)
    ∷ row (set (int (pos 60)) 525_599 1) (int (pos 0)) (int (pos 31_536_000)) (Err TooFewSteps)
    ∷ row (set (int (pos 60)) max_steps 1) (int (pos 0)) (int (pos 31_536_001)) (cost 525_601 525_602 5_256_020 525_650 1_576_930)
    -- backward, and from -0.0
    ∷ row (set (int (negsuc 9)) max_steps 1) (int (pos 100)) (int (pos 20)) (cost 8 9 90 53 149)
    ∷ row (set (int (pos 1)) max_steps 0) (neg nought) (int (pos 8)) (cost 8 0 0 53 149)
    -- 2^50 and 10^9 themselves are within, one more is not
    ∷ row (set (int (pos (10 ^ 9))) max_steps 0) (int (pos (2 ^ 50 - 8 * 10 ^ 9))) (int (pos (2 ^ 50))) (cost 8 0 0 53 149)
    ∷ row (set (int (pos 1)) max_steps 0) (int (neg_ℤ (pos (2 ^ 50)))) (int (neg_ℤ (pos (2 ^ 50 - 8)))) (cost 8 0 0 53 149)
    ∷ row (set (int (pos 1)) max_steps 0) (int (pos 0)) (int (pos (2 ^ 50 + 1))) (Err NotWhole)
    ∷ row (set (int (pos (10 ^ 9 + 1))) max_steps 0) (int (pos 0)) (int (pos (2 ^ 50))) (Err NotWhole)
    -- halves, and no step
    ∷ row (set half max_steps 0) (int (pos 0)) (int (pos 8)) (Err NotWhole)
    ∷ row (set (int (pos 1)) max_steps 0) half (int (pos 9)) (Err NotWhole)
    ∷ row (set (int (pos 0)) max_steps 0) (int (pos 0)) (int (pos 8)) (Err NotWhole)
    -- the order: 5 before 12, 12 before 13, 13 before 1, 1 before 14
    ∷ row (set (int (pos 1)) (max_steps + 1) 0) (int (pos 0)) nan (Err Setting)
    ∷ row (set half max_steps 0) (int (pos 0)) nan (Err BlankDate)
    ∷ row (set half max_steps 0) (int (pos 0)) (int (pos 1)) (Err NotWhole)
    ∷ row (set (int (pos 2)) 0 0) (int (pos 0)) (int (pos 15)) (Err StepNotFinite)
    ∷ []

-- what is told of each row, and what must be
unfoldable pub told_of : List Row → List (Result Cost Refusal)
told_of [] = []
told_of (r ∷ rs) = forecast_of r.settings r.t0 r.tf ∷ told_of rs

unfoldable pub due_of : List Row → List (Result Cost Refusal)
due_of [] = []
due_of (r ∷ rs) = r.expected ∷ due_of rs

abbrev pub Rows : Type 0
Rows = told_of some_rows ≡ due_of some_rows
