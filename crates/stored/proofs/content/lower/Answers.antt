-- `lower` is the lower half.
use borrow.Author.Rules.{rules}
use Rattle.stored.specs.Content.{half}
use Rattle.stored.proofs.content.lower.Goals as goal

pub returns : goal.returns
unfolding half
returns c = search rules
