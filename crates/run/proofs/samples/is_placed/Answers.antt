-- The code tests a quotient, since a product could wrap.
use Rattle.run.proofs.Placing.{not_placed, by_quotient}
use Rattle.run.proofs.samples.is_placed.Goals as goal

pub returns-then-n-from : goal.returns-then-n-from
returns-then-n-from c = not_placed _ _ _ _ c.then-n-from.either

pub returns : goal.returns
returns c = by_quotient _ _ _ _ c.if-n-from.false c.if-places-m.false
