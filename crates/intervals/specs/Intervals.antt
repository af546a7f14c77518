-- 01, "Between samples": "Forward if the last time exceeds the first: then the first is the lower end sample and the last the upper; else the reverse.
-- `interpolate` takes the interval before the first sample whose time fails "<= t" (backward: ">= t"), held to 0 and count-2. The batch starts at
-- interval 0 and walks on while the next sample's time is strictly short of t; it never walks back."
-- Interval k lies between samples k and k + 1. A difference of counts that would fall below 0 is 0.
use Rattle.std.specs.Prelude.{ℕ, zero, suc, ◌+◌, ◌-◌, Bool, cond, List, ltb, Float}
use Rattle.std.specs.Float.Ieee.{lt, le}
use Rattle.intervals.specs.declared.Ends.{Ends}
use Rattle.intervals.specs.Table.{count_of, time_of}

unfoldable pub last_time : List Float → Float
last_time l = time_of l (count_of l - 1)

unfoldable pub is_forward : List Float → Bool
is_forward l = lt (time_of l 0) (last_time l)

unfoldable pub ends_of : List Float → Ends
ends_of l =
    cond (is_forward l)
    (record { lower = time_of l 0; upper = last_time l })
    (record { lower = last_time l; upper = time_of l 0 })

-- ---- one time
-- "<= t", backward ">= t"
unfoldable pub reached : Bool → Float → Float → Bool
reached f time t = cond f (le time t) (le t time)

-- the first sample from sample n on whose time fails that, where `left` samples are left to look at; the count if none does
unfoldable pub first_past : Bool → List Float → Float → ℕ → ℕ → ℕ
first_past f l t zero n = n
first_past f l t (suc left) n = cond (reached f (time_of l n) t) (first_past f l t left (n + 1)) n

-- k, or the last interval where k lies past it
unfoldable pub held_to : ℕ → ℕ → ℕ
held_to last k = cond (ltb last k) last k

unfoldable pub interval_of : List Float → Float → ℕ
interval_of l t = held_to (count_of l - 2) (first_past (is_forward l) l t (count_of l) 0 - 1)

-- ---- a batch
-- strictly short of t
unfoldable pub is_short : Bool → Float → Float → Bool
is_short f time t = cond f (lt time t) (lt t time)

-- on from interval k, where `left` intervals are left to walk on to
unfoldable pub walk_on : Bool → List Float → Float → ℕ → ℕ → ℕ
walk_on f l t zero k = k
walk_on f l t (suc left) k = cond (is_short f (time_of l (k + 1)) t) (walk_on f l t left (k + 1)) k

-- the interval of the next time, where the walk stands at interval k
unfoldable pub walked_to : List Float → Float → ℕ → ℕ
walked_to l t k = walk_on (is_forward l) l t (count_of l - 2 - k) k
