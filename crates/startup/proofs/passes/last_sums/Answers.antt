-- `passes::last_sums` is `last_sums`.
use Rattle.startup.specs.Passes.{sums_on, last_sums}
use Rattle.startup.proofs.passes.last_sums.Goals as goal

pub returns : goal.returns
unfolding last_sums sums_on
returns c =
    simp (c.on-4.ensures, c.on-3.ensures, c.on-2.ensures, c.on.ensures, c.at_epoch.ensures, c.state_at-epoch.ensures)
