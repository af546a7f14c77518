-- `sample_after` is `sample_of` of the next sample; past the last one there is none, however large n is.
use mathlib.Core.Path.{sym, ◌∙◌}
use native.Mathlib.Omega.{arith}
use Rattle.intervals.proofs.Reading.{no_sample_lem}
use Rattle.intervals.specs.Table.{count_of}
use Rattle.intervals.proofs.table.sample_after.Goals as goal

pub returns : goal.returns
unfolding count_of
returns c = c.none.ensures ∙ sym (no_sample_lem _ _ (omega (arith, c.count_of.ensures)))
