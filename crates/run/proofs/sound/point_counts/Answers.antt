-- Nothing wraps.
use native.Mathlib.Omega.{arith}
use Rattle.run.proofs.Counts.{rank_le}
use Rattle.run.proofs.sound.point_counts.Goals as goal

pub overflow_add-result : goal.overflow_add-result
overflow_add-result c = omega (arith, c.rank_of.ensures, rank_le c.args.i)
