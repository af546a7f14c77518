-- `cost_between` is `cost_for`, of the span and the step of a start.
use Rattle.profile.specs.Costs.{span_in, step_in}
use Rattle.profile.proofs.Reading.{step_is_time}
use Rattle.profile.proofs.Plainly.{three}
use Rattle.profile.proofs.Forecasts.{far_is}
use Rattle.profile.proofs.costs.cost_between.Goals as goal

pub span_of-span-requires : goal.span_of-span-requires
span_of-span-requires c = let w = three _ _ _ c.requires.0.0 in (w.start, w.end)

pub size_of-step-requires : goal.size_of-step-requires
size_of-step-requires c = step_is_time _ (three _ _ _ c.requires.0.0).step

pub cost_for-requires : goal.cost_for-requires
cost_for-requires c =
    let span = c.span_of-span.ensures in
    let step = c.size_of-step.ensures in
    (far_is _ _ _ _ _ _ span.2 span.3 step.1 span.0 span.1 step.0 c.requires.0, c.requires.1)

pub returns : goal.returns
unfolding span_in step_in
returns c = rw (← c.span_of-span.ensures.0, ← c.size_of-step.ensures.0) c.cost_for.ensures
