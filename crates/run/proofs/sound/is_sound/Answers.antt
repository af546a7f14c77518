-- A lawful plan has small settings.
use mathlib.Core.Path.{sym, ◌∙◌}
use Rattle.run.proofs.Counts.{to_small}
use Rattle.run.proofs.sound.is_sound.Goals as goal

pub has_counts-requires : goal.has_counts-requires
has_counts-requires c = to_small _ (sym c.is_lawful.ensures ∙ c.if-not-is_lawful.false)
