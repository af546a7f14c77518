-- `is_lawful` is `is_lawful`.
use mathlib.Core.Path.{sym, ◌∙◌}
use Rattle.plan.specs.Lawful.{is_lawful}
use Rattle.plan.proofs.limits.is_lawful.Goals as goal

pub returns-then-not-are_within_limits : goal.returns-then-not-are_within_limits
unfolding is_lawful
returns-then-not-are_within_limits c = rw (sym c.are_within_limits.ensures ∙ c.if-not-are_within_limits.true)

pub returns : goal.returns
unfolding is_lawful
returns c = rw (sym c.are_within_limits.ensures ∙ c.if-not-are_within_limits.false) c.is_dated.ensures
