-- `begin_with` is `begun_with`.
use Rattle.forecaster.specs.Pieces.{begun_with}
use Rattle.forecaster.proofs.begin_with.Goals as goal

pub returns : goal.returns
unfolding begun_with
returns c =
    simp (c.take_off.ensures, c.settings_with-settings.ensures, c.float_of-7.ensures, c.float_of-tf.ensures, c.float_of-t0.ensures, c.float_of-6.ensures, c.float_of-5.ensures, c.float_of-4.ensures, c.float_of-3.ensures, c.float_of-2.ensures, c.float_of.ensures)
