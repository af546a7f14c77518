-- `are_floats_zero`: triple after triple.
use mathlib.Core.Path.{◌≡◌}
use Prim.Native.Nat.{◌+◌, ◌*◌}
use native.Mathlib.Omega.{arith}
use Rattle.stored.proofs.Unused.{triple_zero, floats_zero}
use Rattle.stored.proofs.judging.are_floats_zero.Goals as goal

pub loop-q-preserved : goal.loop-q-preserved
loop-q-preserved c = let h = triple_zero c.args.c.now c.args.u c.loop-q.q (omega arith) in cc

pub returns : goal.returns
returns c = let e : 6 * c.loop-q.q + 6 ≡ 234 = omega arith in let h = floats_zero c.args.c.now c.args.u in cc
