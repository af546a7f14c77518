-- `row_in` hands out the row that its number names, and zeros from row 10 on.
use mathlib.Core.Path.{◌∙◌}
use lib.Ieee.{of_bits}
use Rattle.std.proofs.Common.{rules}
use Rattle.tables.specs.Tables.{row_in}
use Rattle.tables.proofs.row_in.Goals as goal

pub returns : goal.returns
unfolding of_bits row_in
returns c = c.unwrap_or.ensures ∙ rw c.copied.ensures (c.get.ensures.lookup.4 (search rules) _)
