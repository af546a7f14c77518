-- 398600.4418 is away from the half-way points, which is computed, so mu is the f64 nearest to it.
use mathlib.Core.Path.{refl}
use lib.Ieee.{size, round, of_bits}
use Rattle.double.specs.Nearest.{nearest_double}
use Rattle.double.proofs.Nearest.{is_between_halves, is_no_tie, nearest_double_lem}
use Rattle.point_mass.specs.Force.{mu_decimal, mu}
use Rattle.point_mass.specs.Nearest.{NearestOfMu, PatternOfMu}

pub mu_nearest : NearestOfMu
unfolding mu is_no_tie is_between_halves size
mu_nearest = nearest_double_lem mu_decimal tt

pub mu_pattern : PatternOfMu
unfolding mu nearest_double round of_bits
mu_pattern = refl
