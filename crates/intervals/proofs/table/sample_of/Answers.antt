-- `sample_of` is `sample_of`.
use mathlib.Core.Path.{sym, ◌∙◌}
use Rattle.std.proofs.Common.{add_assoc}
use Rattle.intervals.proofs.Reading.{sample_here, no_sample_lem}
use Rattle.intervals.specs.Table.{count_of}
use Rattle.intervals.proofs.table.sample_of.Goals as goal

pub returns-then-n-count_of : goal.returns-then-n-count_of
unfolding count_of
returns-then-n-count_of c =
    rw (sample_here _ _ (rw c.count_of.ensures at c.if-n-count_of.true)) (simp (c.triple_at.ensures, c.triple_at-then-n-count_of.ensures, c.triple_at-then-n-count_of-2.ensures, add_assoc))

pub returns : goal.returns
unfolding count_of
returns c = c.none.ensures ∙ sym (no_sample_lem _ _ (rw c.count_of.ensures at c.if-n-count_of.false))
