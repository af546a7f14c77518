-- `begin` is `begun`.
use Rattle.std.proofs.Common.{sym, ◌∙◌, ap}
use Rattle.forecaster.specs.Pieces.{begun_of, begun}
use Rattle.forecaster.proofs.begin.Goals as goal

pub returns-in-Some : goal.returns-in-Some
unfolding begun begun_of
returns-in-Some c = c.begin_with.ensures ∙ sym (ap begun_of (sym c.read_nine.ensures ∙ c.in-Some.is))

pub returns-in-None : goal.returns-in-None
unfolding begun begun_of
returns-in-None c = sym (ap begun_of (sym c.read_nine.ensures ∙ c.in-None.is))
