-- A lawful plan has small settings, and so are the passes of the open step.
use mathlib.Core.Path.{sym, ◌∙◌}
use native.Mathlib.Omega.{arith}
use Rattle.run.proofs.Counts.{to_small}
use Rattle.run.proofs.sound.is_open_step.Goals as goal

pub step_counts-requires : goal.step_counts-requires
step_counts-requires c =
    let z = to_small _ (sym c.is_lawful.ensures ∙ c.if-not-is_lawful.false) in
    (z, omega (arith, z.passes, c.if-k-p.true))
