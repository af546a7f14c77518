-- `entry` is the coefficient of its row at its column, and 0.0 beside the table.
use mathlib.Core.Path.{◌∙◌}
use lib.Ieee.{of_bits}
use Rattle.std.proofs.Common.{rules}
use Rattle.tables.specs.Tables.{row_of}
use Rattle.tables.proofs.Rows.{nine_at}
use Rattle.tables.proofs.entry.Goals as goal

pub returns : goal.returns
unfolding row_of of_bits
returns g c =
    c.unwrap_or.ensures ∙ rw c.copied.ensures (c.get.ensures.lookup.4 (search rules) _ ∙ rw c.row.ensures (nine_at (g.T.Table.at c.args.i) (g.met.T.Table.is_nought_outside.beside c.args.i) c.args.k))
