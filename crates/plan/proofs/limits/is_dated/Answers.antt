-- `is_dated` is `is_dated`.
use Rattle.plan.specs.Lawful.{is_dated}
use Rattle.plan.proofs.limits.is_dated.Goals as goal

pub returns : goal.returns
unfolding is_dated
returns c = rw (← c.is_finite.ensures, ← c.is_finite-2.ensures, ← c.is_finite-3.ensures, ← c.is_finite-4.ensures)
