-- `put_floats`: triple after triple.
use mathlib.Core.Path.{◌≡◌, refl}
use Prim.Native.Nat.{◌*◌}
use native.Mathlib.Omega.{arith}
use Rattle.blocks.specs.Rows.{filled_from}
use Rattle.stored.proofs.Parts.{six_floats}
use Rattle.stored.proofs.content.put_floats.Goals as goal

pub loop-q-init : goal.loop-q-init
unfolding filled_from
loop-q-init c = refl

pub loop-q-preserved : goal.loop-q-preserved
loop-q-preserved c = let h = six_floats c.args.u c.args.floats c.loop-q.q c.args.content.now in cc

pub returns : goal.returns
returns c = let e : 6 * c.loop-q.q ≡ 246 = omega arith in cc
