-- `head_of`.
use Rattle.stored.specs.Content.{head_of}
use Rattle.stored.proofs.content.head_of.Goals as goal

pub returns : goal.returns
unfolding head_of
returns c = cc
