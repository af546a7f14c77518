-- 01, "Startup": "Point i, 0 to 8, has time t0 + (i-4)·h." The nine points by position and velocity; the epoch is point 4.
use Rattle.std.specs.Prelude.{ℕ, pos, set, Float}
use Rattle.std.specs.Float.{binary64}
use Rattle.std.specs.Float.Ieee.{add, sub, mul, of_int}
use Rattle.triple.specs.declared.Triple.{Triple}
use Rattle.triple.specs.declared.State.{State}
use Rattle.triple.specs.declared.Point.{Point}
use Rattle.triple.specs.Nine.{at, nine_zeros}
use Rattle.startup.specs.declared.Places.{Places}

-- i - 4, as a float
unfoldable pub offset : ℕ → Float
offset i = sub binary64 (of_int binary64 (pos i)) (of_int binary64 (pos 4))

unfoldable pub time_at : Float → Float → ℕ → Float
time_at t0 h i = add binary64 t0 (mul binary64 (offset i) h)

unfoldable pub state_at : Places → ℕ → State
state_at p i = record { r = at p.r i; v = at p.v i }

unfoldable pub point_at : Float → Float → Places → ℕ → Point
point_at t0 h p i = record { t = time_at t0 h i; r = at p.r i; v = at p.v i }

-- before the first answer only the epoch is known
unfoldable pub first_places : Triple → Triple → Places
first_places r0 v0 = record { r = set nine_zeros 4 r0; v = set nine_zeros 4 v0 }

-- point i is at x
unfoldable pub placed : ℕ → State → Places → Places
placed i x p = record { r = set p.r i x.r; v = set p.v i x.v }
