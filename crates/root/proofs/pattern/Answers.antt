-- `root::pattern` meets its contract.
use native.Mathlib.Omega.{arith}
use Rattle.root.proofs.Halves.{rounded, root_small}
use Rattle.root.proofs.pattern.Goals as goal

pub overflow_add-result : goal.overflow_add-result
overflow_add-result c = omega (arith, root_small c.split-p.result.m c.wide_root-s.result (omega arith) c.wide_root-s.ensures)

pub returns : goal.returns
returns c = rounded c.args.b c.split-p.result.m c.split-p.result.h c.wide_root-s.result c.split-p.ensures c.wide_root-s.ensures
