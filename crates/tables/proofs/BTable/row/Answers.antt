-- A row of table B is that of its definition: so are the ten that are stored, and below them stand zeros.
use mathlib.Core.Path.{◌∙◌, ap}
use Rattle.tables.specs.Tables.{b_at, row_of, row_in}
use Rattle.tables.specs.Outside.{b_outside}
use Rattle.tables.proofs.Before.{b_bits, entry}
use Rattle.tables.proofs.Rows.{ten_at}
use Rattle.tables.proofs.Same.{b_rows_were}
use Rattle.tables.proofs.BTable.row.Goals as goal

pub returns : goal.returns
unfolding row_of row_in entry b_bits
returns c = c.row_in.ensures ∙ (ap (λ rows. row_in rows c.args.i) b_rows_were ∙ ten_at b_at b_outside.below c.args.i)
