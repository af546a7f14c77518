-- 01: "A sample is ten f64: t, r, v, a. Sample n takes numbers 10n to 10n+9".
use Rattle.std.specs.Prelude.{ℕ, ◌+◌, ◌*◌, ◌/◌, cond, List, ltb, length, get_or, Float}
use Rattle.std.specs.Float.{nan}
use Rattle.triple.specs.declared.Triple.{Triple}
use Rattle.triple.specs.declared.Sample.{Sample}
use Rattle.triple.specs.Arithmetic.{thrice}
use Rattle.triple.specs.Sampled.{sample_width}

-- how many samples a table has
unfoldable pub count_of : List Float → ℕ
count_of l = length l / sample_width

-- the numbers at three places
abbrev pub three_at : List Float → ℕ → ℕ → ℕ → Triple
three_at l p q s = record { x = get_or l p nan; y = get_or l q nan; z = get_or l s nan }

-- the ten numbers from place p on
abbrev pub ten : List Float → ℕ → Sample
ten l p =
    record {
      t = get_or l p nan;
      r = three_at l (p + 1) (p + 2) (p + 3);
      v = three_at l (p + 4) (p + 5) (p + 6);
      a = three_at l (p + 7) (p + 8) (p + 9);
    }

abbrev pub nans : Triple
nans = thrice nan

unfoldable pub no_sample : Sample
no_sample = record { t = nan; r = nans; v = nans; a = nans }

-- sample n; past the last one all is NaN
unfoldable pub sample_of : List Float → ℕ → Sample
sample_of l n = cond (ltb n (count_of l)) (ten l (sample_width * n)) no_sample

unfoldable pub time_of : List Float → ℕ → Float
time_of l n = (sample_of l n).t
