-- `sum_of` is `sum_of`: all nine terms.
use Rattle.std.proofs.Common.{◌≡◌, ◌∙◌, refl, rules, length}
use Rattle.tables.specs.Tables.{row_of}
use Rattle.sums.specs.Weighted.{sum_of}
use Rattle.sums.proofs.sum_of.Goals as goal

pub returns : goal.returns
unfolding sum_of row_of
returns g c = let e : length c.args.a ≡ 9 = search rules in c.weighted.ensures ∙ rw (c.row.ensures, e) refl
