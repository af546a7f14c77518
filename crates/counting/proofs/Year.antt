-- The year is within the bounds, by computing.
use mathlib.Core.Path.{refl}
use mathlib.Core.Logic.{inl}
use lib.Dec.{lit≤}
use Rattle.plan.specs.Limits.{are_within_limits, wants_samples}
use Rattle.counting.specs.Counting.{span_of, steps_for, tail_for, plain_for, tail_answers_for, most_for, most_before}
use Rattle.counting.specs.Year.{TheYear}

pub the_year : TheYear
unfolding are_within_limits wants_samples span_of steps_for most_before most_for plain_for tail_answers_for tail_for
the_year =
    record {
      within =
          record {
            start_whole = inl refl;
            end_whole = inl refl;
            step_whole = inl refl;
            start_size = lit≤ tt;
            end_size = lit≤ tt;
            step_size = lit≤ tt;
            moves = lit≤ tt;
            far = lit≤ tt;
            limits = refl;
            enough = lit≤ tt;
          };
      steps = refl;
      answers = refl;
    }
