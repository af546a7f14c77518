-- `content_of_run`.
use Rattle.stored.specs.Content.{content_of_run}
use Rattle.stored.proofs.content.content_of_run.Goals as goal

pub returns : goal.returns
unfolding content_of_run
returns c = cc
