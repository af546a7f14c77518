-- `take_last` is `last_taken`.
use Rattle.std.proofs.Common.{refl}
use Rattle.gauss_jackson.specs.Answers.{last_taken}
use Rattle.gauss_jackson.proofs.Sampling.{no_room, stored_one}
use Rattle.gauss_jackson.proofs.taking.take_last.Goals as goal

pub returns-then-not-has_place : goal.returns-then-not-has_place
unfolding last_taken
returns-then-not-has_place c = let z = no_room _ _ _ _ _ _ _ _ c.wants_samples-wanted.ensures c.has_place.ensures _ (c.if-not-has_place.true) c.end.ensures in (z.0, (refl, z.1))

pub returns : goal.returns
unfolding last_taken
returns c =
    rw (← c.last_sample.ensures, ← c.solution_of.ensures, ← c.end-done.ensures) (let z = stored_one _ _ _ _ _ _ _ _ c.wants_samples-wanted.ensures c.has_place.ensures _ _ (c.if-not-has_place.false) c.keep_sample.ensures.1 c.tell_stored.ensures in (z.0, (c.keep_sample.ensures.0, z.1)))
