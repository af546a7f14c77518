-- `time_at` is `time_at`.
use lib.Ieee.{of_bits, of_int}
use Rattle.startup.specs.Points.{offset, time_at}
use Rattle.startup.proofs.time_at.Goals as goal

pub returns : goal.returns
unfolding time_at offset of_bits of_int
returns c = simp c.from.ensures
