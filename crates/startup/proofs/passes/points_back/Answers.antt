-- `passes::points_back` is `points_back`.
use Rattle.startup.specs.Passes.{sums_back, point_back, points_back}
use Rattle.startup.proofs.passes.points_back.Goals as goal

pub returns : goal.returns
unfolding points_back point_back sums_back
returns c =
    simp (c.point_of-4.ensures, c.point_of-3.ensures, c.point_of-2.ensures, c.point_of.ensures, c.back-s0.ensures, c.back-s1.ensures, c.back-s2.ensures, c.back-s3.ensures)
