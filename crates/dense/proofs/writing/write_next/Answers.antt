-- `write_next` walks on, and puts what it finds there.
use Rattle.dense.proofs.writing.write_next.Goals as goal

pub returns : goal.returns
returns c = record { value = c.walk_on-at.ensures; out_after = rw (c.store.ensures, c.value.ensures, c.walk_on-at.ensures) }
