-- `search` is `first_past`: what is looked for from sample n on is what was looked for from the start.
use mathlib.Core.Bool.{not}
use lib.Dec.{eqb}
use Prim.Native.Nat.{◌-◌}
use mathlib.Core.Path.{◌≡◌}
use Rattle.intervals.specs.Intervals.{first_past}
use Rattle.intervals.proofs.search.Given as goal

abbrev pub invariant-loop-n : goal.invariant-loop-n
invariant-loop-n g l = first_past (not (eqb g.row.FORWARD 0)) l.samples l.t (l.count - l.n) l.n ≡ first_past (not (eqb g.row.FORWARD 0)) l.samples l.t l.count 0
