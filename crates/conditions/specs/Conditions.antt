-- 01, "Steps and tail": the tests that the steps turn on.
use Rattle.std.specs.Prelude.{Bool, ◌&&◌, Float}
use Rattle.std.specs.Float.{binary64}
use Rattle.std.specs.Float.Ieee.{neg, add, sub, mul, div, lt}
use Rattle.triple.specs.declared.Triple.{Triple}
use Rattle.triple.specs.declared.State.{State}
use Rattle.triple.specs.Arithmetic.{nought, minus}
use Rattle.triple.specs.Size.{absolute, size_of, tiny}
use Rattle.plan.specs.declared.Plan.{Plan}
use Rattle.plan.specs.Plan.{decimal, direction_of}

-- "let rem = tf - t"
unfoldable pub left_at : Plan → Float → Float
left_at p t = sub binary64 p.tf t

-- "While (tf - t)·dir > 0"
unfoldable pub is_due : Plan → Float → Bool
is_due p t = lt nought (mul binary64 (sub binary64 p.tf t) (direction_of p.t0 p.tf))

-- "If abs(rem) - abs(h) < -1e-12·abs(h)"
unfoldable pub is_tail : Plan → Float → Bool
is_tail p t = lt (sub binary64 (absolute (left_at p t)) (absolute p.h)) (mul binary64 (neg (decimal 12)) (absolute p.h))

-- "Stop if size of change over (size of the new value + 1e-30) is below corrector_tol for both r and v"
unfoldable pub is_still : Float → Triple → Triple → Bool
is_still tol before after = lt (div binary64 (size_of (minus after before)) (add binary64 (size_of after) tiny)) tol

unfoldable pub is_at_rest : Float → State → State → Bool
is_at_rest tol before after = is_still tol before.r after.r && is_still tol before.v after.v
