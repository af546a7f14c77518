-- `end_step` is `step_ended`.
use Rattle.std.proofs.Common.{refl}
use Rattle.gauss_jackson.specs.Answers.{step_ended}
use Rattle.gauss_jackson.proofs.Sampling.{no_room, stored_one}
use Rattle.gauss_jackson.proofs.taking.end_step.Goals as goal

pub returns-then-not-has_place : goal.returns-then-not-has_place
unfolding step_ended
returns-then-not-has_place c = let z = no_room _ _ _ _ _ _ _ _ c.wants_samples-wanted.ensures c.has_place.ensures _ (c.if-not-has_place.true) c.end.ensures in (z.0, (refl, z.1))

pub returns : goal.returns
unfolding step_ended
returns c =
    rw (← c.step_sample.ensures, ← c.onward.ensures) (let z = stored_one _ _ _ _ _ _ _ _ c.wants_samples-wanted.ensures c.has_place.ensures _ _ (c.if-not-has_place.false) c.keep_sample.ensures.1 c.tell_stored.ensures in (z.0, (c.keep_sample.ensures.0, z.1)))
