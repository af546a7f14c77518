-- `end_startup` is `startup_ended`: five samples, all or none.
use Rattle.run.specs.Samples.{start_samples}
use Rattle.std.proofs.Common.{refl}
use Rattle.gauss_jackson.specs.Answers.{startup_ended}
use Rattle.gauss_jackson.proofs.Sampling.{no_room, stored_points}
use Rattle.gauss_jackson.proofs.taking.end_startup.Goals as goal

pub returns-then-not-has_place : goal.returns-then-not-has_place
unfolding startup_ended start_samples
returns-then-not-has_place c = let z = no_room _ _ _ _ _ _ _ _ c.wants_samples-wanted.ensures c.has_place.ensures _ (c.if-not-has_place.true) c.end.ensures in (z.0, (refl, z.1))

pub returns : goal.returns
unfolding startup_ended
returns c =
    rw (← c.launch.ensures, ← c.onward.ensures) (let z = stored_points _ _ _ _ _ _ c.wants_samples-wanted.ensures c.has_place.ensures _ _ (c.if-not-has_place.false) c.keep_points.ensures.1 c.tell_stored.ensures in (z.0, (c.keep_points.ensures.0, z.1)))
