-- `root::stepped_down` meets its contract. The invariant: m is below the square of r + 1.
use native.Mathlib.Omega.{arith}
use Rattle.root.proofs.Steps.{square, sq_pos, step_down}
use Rattle.root.proofs.stepped_down.Goals as goal

pub loop-r-init : goal.loop-r-init
loop-r-init c = c.requires

pub overflow_mul-r : goal.overflow_mul-r
overflow_mul-r c = omega (arith, square c.loop-r.r c.loop-r.invariant.1)

pub overflow_sub-r : goal.overflow_sub-r
overflow_sub-r c = sq_pos _ _ c.loop-r-test.true

pub loop-r-smaller : goal.loop-r-smaller
loop-r-smaller c = omega (arith, sq_pos _ _ c.loop-r-test.true)

pub loop-r-preserved : goal.loop-r-preserved
loop-r-preserved c = (step_down _ _ c.loop-r-test.true, omega (arith, c.loop-r.invariant.1))

pub returns : goal.returns
returns c = record { low = c.loop-r-test.false; high = c.loop-r.invariant.0 }
