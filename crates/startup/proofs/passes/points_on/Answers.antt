-- `passes::points_on` is `points_on`.
use Rattle.startup.specs.Passes.{sums_on, point_on, points_on}
use Rattle.startup.proofs.passes.points_on.Goals as goal

pub returns : goal.returns
unfolding points_on point_on sums_on
returns c =
    simp (c.point_of-4.ensures, c.point_of-3.ensures, c.point_of-2.ensures, c.point_of.ensures, c.on-s8.ensures, c.on-s7.ensures, c.on-s6.ensures, c.on-s5.ensures)
