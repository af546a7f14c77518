-- `none` is `no_sample`: what the library has for NaN is 0.0 / 0.0.
use lib.Ieee.{div, of_bits}
use Rattle.intervals.specs.Table.{no_sample}
use Rattle.intervals.proofs.table.none.Goals as goal

pub returns : goal.returns
unfolding no_sample div of_bits
returns c = simp c.thrice-nans.ensures
