-- `floats` puts ten floats, one after another: what is left to put, put over what is there, stays the same.
use Rattle.std.proofs.Common.{◌≡◌, ◌+◌, ◌*◌, drop}
use Rattle.lines.specs.Put.{over}
use Rattle.lines.specs.Lines.{floats_of}
use Rattle.lines.proofs.rows.floats.Given as goal

abbrev pub invariant-loop-i : goal.invariant-loop-i
invariant-loop-i l = over (l.at + 17 * l.i) (floats_of (drop l.i l.x-items)) l.out ≡ over l.at (floats_of l.x-items) l.initial.out
