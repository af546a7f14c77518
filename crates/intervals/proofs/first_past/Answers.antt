-- `first_past` is `first_past`, by how the table runs.
use Rattle.intervals.proofs.first_past.Goals as goal

pub returns-then-forward : goal.returns-then-forward
returns-then-forward c = rw c.if-forward.true c.search.ensures

pub returns-else-forward : goal.returns-else-forward
returns-else-forward c = rw c.if-forward.false c.search-else-forward.ensures
