-- `ends_of` is `ends_of`.
use mathlib.Core.Path.{sym, ◌∙◌}
use Rattle.intervals.specs.Intervals.{ends_of}
use Rattle.intervals.proofs.ends_of.Goals as goal

pub returns-then-is_forward : goal.returns-then-is_forward
unfolding ends_of
returns-then-is_forward c = simp (c.time_of-first.ensures, c.last_time-last.ensures, sym c.is_forward.ensures ∙ c.if-is_forward.true)

pub returns : goal.returns
unfolding ends_of
returns c = simp (c.time_of-first.ensures, c.last_time-last.ensures, sym c.is_forward.ensures ∙ c.if-is_forward.false)
