-- 02, W-207: "a force of (-mu·x)/((d·d)·d) per component, d the distance, W-204's root of (x·x + y·y) + z·z, mu 398600.4418 km³/s² (WGS 84)".
-- Each operation is rounded once.
use Rattle.std.specs.Prelude.{Bool, false, not, cond, Option, Some, None, pos, Float}
use Rattle.std.specs.Float.{fin, binary64}
use Rattle.std.specs.Float.Ieee.{neg, add, mul, div, le}
use Rattle.double.specs.Fraction.{Fraction}
use Rattle.double.specs.Decimal.{◌e+◌}
use Rattle.double.specs.Nearest.{nearest_double}
use Rattle.root.specs.Root.{root_of}
use Rattle.triple.specs.declared.Triple.{Triple}
use Rattle.triple.specs.Size.{square}
use Rattle.point_mass.specs.declared.force.Pulled.{Pulled}

-- 398600.4418
abbrev pub mu_decimal : Fraction
mu_decimal = 3_986004418 e+ 5

-- the f64 nearest to it: `mu_nearest` in proofs/Nearest.antt
unfoldable pub mu : Float
mu = nearest_double mu_decimal

-- the root of (x·x + y·y) + z·z
unfoldable pub distance : Triple → Float
distance r = root_of (add binary64 (add binary64 (square r.x) (square r.y)) (square r.z))

-- (-mu·x)/((d·d)·d)
unfoldable pub pull_along : Float → Float → Float
pull_along d x = div binary64 (mul binary64 (neg mu) x) (mul binary64 (mul binary64 d d) d)

unfoldable pub pull : Triple → Triple
pull r = record { x = pull_along (distance r) r.x; y = pull_along (distance r) r.y; z = pull_along (distance r) r.z }

-- 1 km
abbrev pub lowest : Float
lowest = fin false 1 (pos 0)

-- 15: "when a question's distance is below 1 km or NaN", which is not at or above 1 (`BelowOrNan` in specs/Low.antt)
unfoldable pub is_too_low : Float → Bool
is_too_low d = not (le lowest d)

unfoldable pub pull_at : Triple → Pulled
pull_at r = record { low = is_too_low (distance r); a = pull r }

-- what answers a question there: none where that is too low
unfoldable pub answer_at : Triple → Option Triple
answer_at r = cond (pull_at r).low None (Some (pull_at r).a)
