-- 01, "Steps and tail": the newest point, k, and the points that are asked from it.
use Rattle.std.specs.Prelude.{◌+◌, List}
use Rattle.std.specs.Float.{binary64}
use Rattle.std.specs.Float.Ieee.{add}
use Rattle.triple.specs.declared.Triple.{Triple}
use Rattle.triple.specs.declared.State.{State}
use Rattle.triple.specs.declared.Point.{Point}
use Rattle.sums.specs.Sums.{on_sums}
use Rattle.startup.specs.declared.Places.{Places}
use Rattle.startup.specs.Points.{time_at, state_at}
use Rattle.startup.specs.Passes.{last_sums}
use Rattle.plan.specs.declared.Plan.{Plan}
use Rattle.run.specs.declared.Track.{Track}

-- after the startup: "s and S are worked out again [..]; t = t0 + 4·h, steps = 4"; it is point 8
unfoldable pub start_track : Plan → Places → List Triple → Track
start_track p x window =
    record { t = time_at p.t0 p.h 8; steps = 4; state = state_at x 8; sums = last_sums p.h x window }

-- a step on, to y with the acceleration a: "s = s + a_new, S = S', t = t + h, one step"
unfoldable pub track_on : Plan → Track → State → Triple → Track
track_on p k y a =
    record { t = add binary64 k.t p.h; steps = k.steps + 1; state = y; sums = on_sums k.sums a }

-- where a step that ends at y is asked: "ask at t + h"
unfoldable pub step_point : Plan → Track → State → Point
step_point p k y = record { t = add binary64 k.t p.h; r = y.r; v = y.v }

-- where the tail's RK4 step starts
unfoldable pub tail_from : Track → Point
tail_from k = record { t = k.t; r = k.state.r; v = k.state.v }

-- where the tail ends: "with samples one more question at tf"
unfoldable pub final_point : Plan → State → Point
final_point p y = record { t = p.tf; r = y.r; v = y.v }
