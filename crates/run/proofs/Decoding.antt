-- A waiting point in numbers, read back: what is written is read again.
use mathlib.Core.Path.{◌≡◌, refl}
use Rattle.run.specs.declared.Count.{Count}
use Rattle.run.specs.declared.waiting.Stage.TheVariants.{First, Second, Third, Fourth}
use Rattle.run.specs.declared.waiting.Waiting.{Waiting}
use Rattle.run.specs.declared.waiting.Waiting.TheVariants.{Epoch, Forward, Backward, Survey, Pass, Step, Tail, TailSample, Ended, Unknown}
use Rattle.run.specs.Waiting.{mark_at, stage_from, waiting_at, waits_at}

-- what is written is read again
pub read : (w : Waiting) (c : Count) → waits_at (mark_at w c) ≡ w
unfolding waits_at waiting_at stage_from
read Epoch c = refl
read (Forward i First) c = refl
read (Forward i Second) c = refl
read (Forward i Third) c = refl
read (Forward i Fourth) c = refl
read (Backward i First) c = refl
read (Backward i Second) c = refl
read (Backward i Third) c = refl
read (Backward i Fourth) c = refl
read (Survey i) c = refl
read (Pass i) c = refl
read (Step n) c = refl
read (Tail First) c = refl
read (Tail Second) c = refl
read (Tail Third) c = refl
read (Tail Fourth) c = refl
read TailSample c = refl
read Ended c = refl
read Unknown c = refl
