-- `put_entries` prints the samples of a room, one after the other.
use mathlib.Core.Path.{◌≡◌}
use Prim.Native.Nat.{◌+◌, ◌-◌, ◌*◌, ◌≤◌}
use lib.ListN.{length}
use Rattle.lines.specs.Put.{over}
use Rattle.flight.specs.Told.{read_from}
use Rattle.forecaster.specs.Printed.{entry_lines}
use Rattle.forecaster.proofs.rows.put_entries.Given as goal

abbrev pub invariant-loop-i : goal.invariant-loop-i
invariant-loop-i l =
    (l.i ≤ l.count) × (l.at ≤ 191 * l.i) × (length l.out ≡ length l.initial.out)
    × (over l.at (entry_lines (read_from (l.count - l.i) l.i (l.from + l.i) l.room)) l.out ≡ over 0 (entry_lines (read_from l.count 0 l.from l.room)) l.initial.out)
    × (l.at + length (entry_lines (read_from (l.count - l.i) l.i (l.from + l.i) l.room)) ≡ length (entry_lines (read_from l.count 0 l.from l.room)))
