-- `cost_for` is `cost_for`, and no count wraps.
use Rattle.std.proofs.Common.{refl, arith}
use Rattle.counting.specs.Counting.{plain_for, tail_answers_for, least_for, most_for, least_before, most_before}
use Rattle.counting.specs.Rooms.{room_for}
use Rattle.profile.specs.Costs.{cost_for}
use Rattle.profile.proofs.Counts.{about_steps, corrected_small}
use Rattle.profile.proofs.costs.cost_for.Goals as goal

pub overflow_sub-plain : goal.overflow_sub-plain
overflow_sub-plain c = omega (arith, (about_steps _ _ _ c.requires.0).eight)

pub overflow_sub-plain-2 : goal.overflow_sub-plain-2
overflow_sub-plain-2 c = omega (arith, (about_steps _ _ _ c.requires.0).eight, c.tail_for-tail.ensures.1)

pub samples_for-samples-requires : goal.samples_for-samples-requires
samples_for-samples-requires c = (about_steps _ _ _ c.requires.0).small

pub overflow_mul-least : goal.overflow_mul-least
overflow_mul-least c = omega (arith, c.fewest_for-fewest.ensures.1)

pub overflow_add-least : goal.overflow_add-least
overflow_add-least c = omega (arith, c.fewest_for-fewest.ensures.1)

pub overflow_add-least-2 : goal.overflow_add-least-2
overflow_add-least-2 c = omega (arith, c.fewest_for-fewest.ensures.1, (about_steps _ _ _ c.requires.0).small)

pub overflow_add-least-3 : goal.overflow_add-least-3
overflow_add-least-3 c = omega (arith, c.fewest_for-fewest.ensures.1, (about_steps _ _ _ c.requires.0).small, c.tail_answers-extra.ensures.1)

pub overflow_mul-corrected : goal.overflow_mul-corrected
overflow_mul-corrected c =
    omega (arith, corrected_small _ c.tail_for-tail.result _ (about_steps _ _ _ c.requires.0).small c.requires.1.passes)

pub overflow_add-most-2 : goal.overflow_add-most-2
overflow_add-most-2 c =
    omega (arith, corrected_small _ c.tail_for-tail.result _ (about_steps _ _ _ c.requires.0).small c.requires.1.passes, c.requires.1.startups)

pub overflow_add-most-3 : goal.overflow_add-most-3
overflow_add-most-3 c =
    omega (arith, corrected_small _ c.tail_for-tail.result _ (about_steps _ _ _ c.requires.0).small c.requires.1.passes, c.requires.1.startups, c.tail_answers-extra.ensures.1)

pub overflow_mul-result : goal.overflow_mul-result
overflow_mul-result c = omega (arith, c.samples_for-samples.ensures.1, (about_steps _ _ _ c.requires.0).small)

pub returns : goal.returns
unfolding cost_for least_before most_before least_for most_for plain_for tail_answers_for room_for
returns c =
    rw (c.samples_for-samples.ensures.0, c.fewest_for-fewest.ensures.0, c.tail_answers-extra.ensures.0, c.tail_for-tail.ensures.0, c.requires.0.2) refl
