-- `write_all` is `written_all`: what is left to do here leaves what the whole leaves.
use mathlib.Core.Path.{refl, sym, ◌∙◌}
use native.Mathlib.Omega.{arith}
use Rattle.dense.proofs.Loops.{put_on, put_end}
use Rattle.dense.proofs.writing.write_all.Goals as goal

pub loop-j-init : goal.loop-j-init
loop-j-init c = (refl, refl)

pub loop-j-preserved : goal.loop-j-preserved
loop-j-preserved c = (omega (arith, c.write_next-k.auto), rw (c.write_next-k.ensures.value, c.write_next-k.ensures.out_after) (sym (put_on _ _ c.loop-j-test.true _ _ _) ∙ c.loop-j.invariant.1))

pub shape_of-out : goal.shape_of-out
shape_of-out c = c.loop-j.invariant.0

pub returns : goal.returns
returns c = sym (put_end _ _ c.loop-j-test.false _ _ _) ∙ c.loop-j.invariant.1
