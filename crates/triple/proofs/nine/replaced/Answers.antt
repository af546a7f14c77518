-- `replaced` is `set`, which past the end changes nothing.
use mathlib.Core.Path.{sym}
use native.Mathlib.Omega.{arith}
use lib.Seq.{set_out}
use Rattle.triple.proofs.nine.replaced.Goals as goal

pub returns : goal.returns
returns c = sym (set_out c.args.l c.args.i c.args.t (omega arith))
