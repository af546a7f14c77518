-- `larger_of` is `larger_of`.
use Rattle.triple.specs.Size.{larger_of}
use Rattle.triple.proofs.larger_of.Goals as goal

pub returns-then-a-b : goal.returns-then-a-b
unfolding larger_of
returns-then-a-b c = simp c.if-a-b.true

pub returns-else-a-b : goal.returns-else-a-b
unfolding larger_of
returns-else-a-b c = simp c.if-a-b.false
