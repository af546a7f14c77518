-- `fixed_sum` is `fixed_sum`: the last eight terms.
use Rattle.std.proofs.Common.{◌≡◌, ◌∙◌, refl, rules, length, drop, length-drop, take_all}
use Rattle.tables.specs.Tables.{row_of}
use Rattle.sums.specs.Weighted.{weighted_next, fixed_sum}
use Rattle.sums.proofs.fixed_sum.Goals as goal

pub returns : goal.returns
unfolding fixed_sum weighted_next row_of
returns g c =
    let e : length c.args.a ≡ 9 = search rules in
    let l : length (drop 1 c.args.a) ≡ 8 = rw (length-drop, e) refl in
    c.weighted.ensures ∙ rw (c.row.ensures, take_all 8 (drop 1 c.args.a) (search rules), l) refl
