-- `upper` is the upper half.
use borrow.Author.Rules.{rules}
use Rattle.stored.specs.Content.{half}
use Rattle.stored.proofs.content.upper.Goals as goal

pub returns : goal.returns
unfolding half
returns c = search rules
