-- `stored_bits`.
use Rattle.stored.proofs.content.stored_bits.Goals as goal

pub returns-then-used : goal.returns-then-used
returns-then-used c = rw c.if-used.true c.bits_of.ensures
