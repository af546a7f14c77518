-- 01: "Year, 0 to 31,536,000, h 60, S 12, C 2: K 525,600, 1,576,925 answers." The bounds of demand 3 can be met: the year is within them, with samples,
-- and with max_steps no more than K. The proof is `the_year` in proofs/Year.antt.
use Rattle.std.specs.Prelude.{◌≡◌, ℤ, pos}
use Rattle.std.specs.Float.{binary64}
use Rattle.std.specs.Float.Ieee.{of_int}
use Rattle.triple.specs.Arithmetic.{nought}
use Rattle.plan.specs.declared.Settings.{Settings}
use Rattle.counting.specs.Counting.{span_of, steps_for, most_before, Bounds}

abbrev pub year_settings : Settings
year_settings =
    record {
      h = of_int binary64 (pos 60);
      corrector_tol = nought;
      startup_tol = nought;
      max_corrector_iters = 2;
      max_startup_iters = 12;
      max_steps = 525_600;
      samples = 1;
    }

abbrev pub new_year : ℤ
new_year = pos 0

abbrev pub next_year : ℤ
next_year = pos 31_536_000

pub record TheYear : Type 0 where
  pub within : Bounds year_settings (of_int binary64 new_year) (of_int binary64 next_year) new_year next_year (pos 60)
  pub steps : steps_for (span_of new_year next_year) 60 ≡ 525_600
  pub answers : most_before year_settings (span_of new_year next_year) 60 ≡ 1_576_925
