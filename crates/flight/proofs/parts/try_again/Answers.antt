-- `parts::try_again` is `tried_parts` of what `ask_again` gives.
use Rattle.flight.specs.Parts.{tried_parts}
use Rattle.flight.proofs.parts.try_again.Goals as goal

pub returns : goal.returns
unfolding tried_parts
returns c = simp c.ask_again-done.ensures
