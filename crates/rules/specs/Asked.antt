-- Of the rules alone: every question stands at a time of 01's list, and at most five samples fall due in one call.
-- The proof is `asks_as_listed` in proofs/Asked.antt.
use Rattle.std.specs.Prelude.{◌≡◌, ℕ, zero, suc, ◌+◌, ◌≤◌, length, Float}
use Rattle.std.specs.Float.{binary64}
use Rattle.std.specs.Float.Ieee.{neg, add, sub}
use Rattle.triple.specs.declared.Triple.{Triple}
use Rattle.rk4.specs.Rk4.{half}
use Rattle.startup.specs.Points.{time_at}
use Rattle.plan.specs.declared.Plan.{Plan}
use Rattle.rules.specs.Rules.{Course, asks, stores, ends, exceeds, integrate}

-- "Point i, 0 to 8, has time t0 + (i-4)·h."
abbrev point : Plan → ℕ → Float
point p i = time_at p.t0 p.h i

-- the clock after the startup and n steps: "t = t0 + 4·h", then "t = t + h"
unfoldable pub clock : Plan → ℕ → Float
clock p zero = point p 8
clock p (suc n) = add binary64 (clock p n) p.h

-- 01's question times: t0, the points, RK4's "t, t+h·0.5 twice, t+h" forward from points 4 to 7 and with -h from points 4 to 1, a step's t + h,
-- RK4 over rem = tf - t, and tf
pub data Listed (p : Plan) (t : Float) : Type 0 where
  at_start : t ≡ p.t0 → Listed p t
  at_point : (i : ℕ) → i ≤ 8 → t ≡ point p i → Listed p t
  half_ahead : (i : ℕ) → 4 ≤ i → i ≤ 7 → t ≡ add binary64 (point p i) (half p.h) → Listed p t
  ahead : (i : ℕ) → 4 ≤ i → i ≤ 7 → t ≡ add binary64 (point p i) p.h → Listed p t
  half_back : (i : ℕ) → 1 ≤ i → i ≤ 4 → t ≡ add binary64 (point p i) (half (neg p.h)) → Listed p t
  back : (i : ℕ) → 1 ≤ i → i ≤ 4 → t ≡ add binary64 (point p i) (neg p.h) → Listed p t
  on_step : (n : ℕ) → t ≡ add binary64 (clock p n) p.h → Listed p t
  on_tail : (n : ℕ) → t ≡ clock p n → Listed p t
  half_tail : (n : ℕ) → t ≡ add binary64 (clock p n) (half (sub binary64 p.tf (clock p n))) → Listed p t
  past_tail : (n : ℕ) → t ≡ add binary64 (clock p n) (sub binary64 p.tf (clock p n)) → Listed p t
  at_end : t ≡ p.tf → Listed p t

-- how many samples fall due before the next question or the end
unfoldable pub due : Course → ℕ
due (asks q k) = 0
due (stores n ss c) = length ss + due c
due (ends t y n m) = 0
due exceeds = 0

-- for every acceleration got on the way
unfoldable pub AsListed : Plan → Course → Type 0
AsListed p (asks q k) = Listed p q.t × ((l : Triple) → (due (k l) ≤ 5) × AsListed p (k l))
AsListed p (stores n ss c) = AsListed p c
AsListed p (ends t y n m) = Unit {0}
AsListed p exceeds = Unit {0}

abbrev pub AsksAsListed : Plan → Triple → Triple → Type 0
AsksAsListed p r0 v0 = AsListed p (integrate p r0 v0)
