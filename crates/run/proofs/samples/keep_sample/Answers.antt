-- What is placed has its ten numbers.
use mathlib.Core.Path.{sym, ◌∙◌}
use native.Mathlib.Omega.{arith}
use Rattle.run.proofs.Placing.{placed_is}
use Rattle.run.proofs.samples.keep_sample.Goals as goal

pub overflow_sub-n : goal.overflow_sub-n
overflow_sub-n c = (placed_is _ _ _ _ (sym c.is_placed.ensures ∙ c.if-is_placed.true)).0

pub overflow_mul-n : goal.overflow_mul-n
overflow_mul-n c = omega (arith, (placed_is _ _ _ _ (sym c.is_placed.ensures ∙ c.if-is_placed.true)).1)

pub write-requires : goal.write-requires
write-requires c = omega (arith, (placed_is _ _ _ _ (sym c.is_placed.ensures ∙ c.if-is_placed.true)).1)
