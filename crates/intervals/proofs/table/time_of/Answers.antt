-- `time_of` is `time_of`.
use mathlib.Core.Path.{sym, ap}
use lib.Ieee.{div, of_bits}
use Rattle.intervals.proofs.Reading.{sample_here, no_sample_lem}
use Rattle.intervals.specs.Table.{count_of, no_sample, time_of}
use Rattle.triple.specs.declared.Sample.{Sample}
use Rattle.intervals.proofs.table.time_of.Goals as goal

pub returns-then-n-count_of : goal.returns-then-n-count_of
unfolding time_of count_of
returns-then-n-count_of c = ap (λ (s : Sample). s.t) (sym (sample_here _ _ (rw c.count_of.ensures at c.if-n-count_of.true)))

pub returns : goal.returns
unfolding time_of count_of no_sample div of_bits
returns c = ap (λ (s : Sample). s.t) (sym (no_sample_lem _ _ (rw c.count_of.ensures at c.if-n-count_of.false)))
