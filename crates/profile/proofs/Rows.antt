-- The table of forecasts is computed.
use Rattle.std.proofs.Common.{refl}
use lib.Ieee.{of_int, round, neg, sub, mul, div, lt, le, eq}
use Rattle.triple.specs.Size.{absolute}
use Rattle.triple.specs.Finite.{is_finite}
use Rattle.plan.specs.Limits.{are_within_limits, wants_samples}
use Rattle.plan.specs.Plan.{default_settings, direction_of, plan_of, is_too_near}
use Rattle.plan.specs.Lawful.{is_dated}
use Rattle.counting.specs.Counting.{span_of, steps_for, tail_for, plain_for, tail_answers_for, least_for, most_for, fewest_for, least_before, most_before}
use Rattle.counting.specs.Rooms.{room_for}
use Rattle.profile.specs.Wholes.{whole_of, has_no_fraction, is_whole_time, is_whole_step, are_whole}
use Rattle.profile.specs.Costs.{span_in, step_in, cost_for, forecast_of}
use Rattle.profile.specs.Rows.{told_of, due_of, Rows}

pub rows : Rows
unfolding told_of due_of forecast_of are_whole is_whole_step is_whole_time has_no_fraction whole_of are_within_limits wants_samples default_settings is_dated is_finite is_too_near plan_of direction_of absolute span_in step_in cost_for span_of steps_for tail_for plain_for tail_answers_for least_for most_for fewest_for least_before most_before room_for of_int round neg sub mul div lt le eq
rows = refl
