-- `weighted` is `weighted`: the sum so far is that of the terms passed.
use mathlib.Core.Path.{◌≡◌}
use lib.ListN.{length}
use Rattle.sums.specs.Weighted.{weighted}
use Rattle.sums.proofs.weighted.Given as goal

abbrev pub invariant-loop-b : goal.invariant-loop-b
invariant-loop-b l = l.sum ≡ weighted l.a l.row (length l.yielded)
