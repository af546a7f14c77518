-- `settings_with` is `settings_with`.
use Rattle.forecaster.specs.Printed.{settings_with}
use Rattle.forecaster.proofs.settings_with.Goals as goal

pub returns : goal.returns
unfolding settings_with
returns c = simp c.default_settings.ensures
