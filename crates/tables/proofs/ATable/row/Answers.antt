-- A row of table A is that of its definition: so are the ten that are stored, and below them stand zeros.
use mathlib.Core.Path.{◌∙◌, ap}
use Rattle.tables.specs.Tables.{a_at, row_of, row_in}
use Rattle.tables.specs.Outside.{a_outside}
use Rattle.tables.proofs.Before.{a_bits, entry}
use Rattle.tables.proofs.Rows.{ten_at}
use Rattle.tables.proofs.Same.{a_rows_were}
use Rattle.tables.proofs.ATable.row.Goals as goal

pub returns : goal.returns
unfolding row_of row_in entry a_bits
returns c = c.row_in.ensures ∙ (ap (λ rows. row_in rows c.args.i) a_rows_were ∙ ten_at a_at a_outside.below c.args.i)
