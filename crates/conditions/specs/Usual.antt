-- Where `is_still` may look at mean squares alone. No promise turns on it: `is_still` is what holds, wherever the sizes were worked out or not.
use Rattle.std.specs.Prelude.{◌^◌, Bool, false, ◌&&◌, pos, Float}
use Rattle.std.specs.Float.{fin, binary64}
use Rattle.std.specs.Float.Ieee.{round, lt}
use Rattle.plan.specs.Plan.{decimal}

-- the double nearest 1e150
unfoldable pub vast : Float
vast = round binary64 false (10 ^ 150) 1

-- a tolerance above 1e-60 and below 1, beside a mean square above 1e-45 and below 1e150: products of these neither overflow nor come near what is lost
-- at the lower end, and 1e-30 is little beside the size
unfoldable pub is_usual : Float → Float → Bool
is_usual tol new = lt (decimal 60) tol && (lt tol (fin false 1 (pos 0)) && (lt (decimal 45) new && lt new vast))
