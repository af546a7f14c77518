-- 02, W-207: "when a question's distance is below 1 km or NaN", in these words: `below_or_nan` in proofs/Low.antt is the proof.
use Rattle.std.specs.Prelude.{◌≡◌, ◌||◌, Float}
use Rattle.std.specs.Float.Ieee.{lt, is_nan}
use Rattle.point_mass.specs.Force.{lowest, is_too_low}

abbrev pub BelowOrNan : Type 0
BelowOrNan = (d : Float) → is_too_low d ≡ lt d lowest || is_nan d
