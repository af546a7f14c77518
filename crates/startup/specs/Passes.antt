-- 01, "Startup", 2 to 4: what a pass makes of the points, and when the passes stop.
use Rattle.std.specs.Prelude.{ℕ, zero, suc, ◌+◌, ◌-◌, Bool, List, [], ◌∷◌, ◌++◌, map, reverse, Float}
use Rattle.std.specs.Float.{binary64}
use Rattle.std.specs.Float.Ieee.{div, lt}
use Rattle.triple.specs.declared.Triple.{Triple}
use Rattle.triple.specs.declared.State.{State}
use Rattle.triple.specs.Arithmetic.{nought, minus}
use Rattle.triple.specs.Size.{larger_of, size_of, tiny}
use Rattle.triple.specs.Nine.{at}
use Rattle.sums.specs.declared.Sums.{Sums}
use Rattle.sums.specs.Sums.{epoch_sums, on_sums, back_sums, point_of}
use Rattle.startup.specs.declared.Places.{Places}
use Rattle.startup.specs.declared.Widest.{Widest}
use Rattle.startup.specs.Points.{state_at}

-- the sums n points on from the epoch, at point 4 + n, and n points back, at point 4 - n
unfoldable pub sums_on : ℕ → Sums → List Triple → Sums
sums_on zero x a = x
sums_on (suc n) x a = on_sums (sums_on n x a) (at a (n + 5))

unfoldable pub sums_back : ℕ → Sums → List Triple → Sums
sums_back zero x a = x
sums_back (suc n) x a = back_sums (sums_back n x a) (at a (4 - n))

-- the points after and before the epoch, each by its own sums and all from the same a
unfoldable pub point_on : ℕ → Float → Sums → List Triple → State
point_on n h x a = point_of (4 + n) h (sums_on n x a) a

unfoldable pub point_back : ℕ → Float → Sums → List Triple → State
point_back n h x a = point_of (4 - n) h (sums_back n x a) a

unfoldable pub points_on : Float → Sums → List Triple → List State
points_on h x a = point_on 1 h x a ∷ point_on 2 h x a ∷ point_on 3 h x a ∷ point_on 4 h x a ∷ []

unfoldable pub points_back : Float → Sums → List Triple → List State
points_back h x a = point_back 1 h x a ∷ point_back 2 h x a ∷ point_back 3 h x a ∷ point_back 4 h x a ∷ []

-- "2. Each pass: s[4] = .., S[4] = ..", "3. For i not 4, all from the same a: v[i] = .., r[i] = .."
unfoldable pub pass_places : Float → Places → List Triple → Places
pass_places h p a =
    let x = epoch_sums h (state_at p 4) a in
    let before = reverse (points_back h x a) in
    let after = points_on h x a in
    record {
      r = map (λ (s : State). s.r) before ++ at p.r 4 ∷ map (λ (s : State). s.r) after;
      v = map (λ (s : State). s.v) before ++ at p.v 4 ∷ map (λ (s : State). s.v) after;
    }

-- after the startup: "s and S are worked out again from row 4 and walked from 4 to 8, S before s"
unfoldable pub last_sums : Float → Places → List Triple → Sums
last_sums h p a = sums_on 4 (epoch_sums h (state_at p 4) a) a

-- "the largest size of change (from 0) and of a (from 1e-30), each kept by "greater than", so a NaN is passed over"
unfoldable pub widened : Widest → Triple → Triple → Widest
widened w before after = record { delta = larger_of w.delta (size_of (minus after before)); mag = larger_of w.mag (size_of after) }

-- before a pass has asked. "Over all nine i": the epoch's acceleration stays what it is and is counted first; the largest of nine does not turn on the order
unfoldable pub calm_at : List Triple → Widest
calm_at a = widened (record { delta = nought; mag = tiny }) (at a 4) (at a 4)

-- "Stop if their quotient is below startup_tol."
unfoldable pub is_settled : Float → Widest → Bool
is_settled tol w = lt (div binary64 w.delta w.mag) tol
