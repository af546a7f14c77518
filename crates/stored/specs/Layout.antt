-- Which floats of a run stand where in the stored form, and which of them a waiting point uses (W-201: "content not used at this waiting point
-- is zero"). Used is what an answer to the open question, or any later one, can still read; the settings, the start, the end and the step
-- belong to the run at every waiting point.
use Rattle.std.specs.Prelude.{ℕ, ◌-◌, ◌/◌, ◌%◌, Bool, true, false, ◌&&◌, cond, List, [], ◌∷◌, eqb, ltb, leb, Float}
use Rattle.triple.specs.declared.Triple.{Triple}
use Rattle.triple.specs.Nine.{at}
use Rattle.run.specs.declared.Body.{Body}
use Rattle.run.specs.declared.waiting.Waiting.{Waiting}
use Rattle.run.specs.declared.waiting.Waiting.TheVariants.{Epoch, Forward, Backward, Survey, Pass, Step, Tail, TailSample, Ended, Unknown}
use Rattle.run.specs.Waiting.{stage_number}
use Rattle.stored.specs.declared.layout.Uses.{Uses}

unfoldable pub line : Bool → Bool → ℕ → ℕ → ℕ → ℕ → Bool → ℕ → Bool → Bool → Bool → Bool → Bool → Bool → Uses
line index stage from last since until epoch slopes widest clock state sums trial fixed =
    record {
      index = index;
      stage = stage;
      from = from;
      last = last;
      since = since;
      until = until;
      epoch = epoch;
      slopes = slopes;
      widest = widest;
      clock = clock;
      state = state;
      sums = sums;
      trial = trial;
      fixed = fixed;
    }

abbrev yes : Bool
yes = true

abbrev no : Bool
no = false

unfoldable pub nothing_used : Uses
unfolding line
nothing_used = line no no 1 0 0 0 no 0 no no no no no no

-- the points that are still read when point i is asked: those from i on, and from the epoch on
unfoldable pub up_to_epoch : ℕ → ℕ
up_to_epoch i = cond (ltb i 4) i 4

-- the point or pass number and the stage; places from .. to ..; accelerations from .. to before .., and the epoch's; how many slopes of the open RK4
-- step; the largest change and acceleration; the clock; the newest state; the running sums; the open step's end; FA and FB
unfoldable pub uses_of : Waiting → Uses
--                         index stage from          last  since until epoch slopes  widest clock state sums trial fixed
uses_of Epoch = line no no 4 4 0 0 no 0 no no no no no no
uses_of (Forward i s) = line yes yes 4 i 0 0 yes (stage_number s) no no no no no no
uses_of (Backward i s) = line yes yes i 8 0 0 yes (stage_number s) no no no no no no
uses_of (Survey i) = line yes no (up_to_epoch i) 8 0 i yes 0 no no no no no no
uses_of (Pass i) = line yes no (up_to_epoch i) 8 0 9 yes 0 yes no no no no no
uses_of (Step n) = line yes no 1 0 1 9 yes 0 no yes no yes yes yes
uses_of (Tail s) = line no yes 1 0 0 0 no (stage_number s) no yes yes no no no
uses_of TailSample = line no no 1 0 0 0 no 0 no no no no yes no
uses_of Ended = line no no 1 0 0 0 no 0 no no no no no no
uses_of Unknown = line no no 1 0 0 0 no 0 no no no no no no

-- ---- the floats: 41 times three
unfoldable pub place_used : Uses → ℕ → Bool
place_used u i = leb u.from i && leb i u.last

unfoldable pub acceleration_used : Uses → ℕ → Bool
acceleration_used u i = cond (eqb i 4) u.epoch (leb u.since i && ltb i u.until)

-- triple q, as `triples_of` has them
unfoldable pub triple_used : Uses → ℕ → Bool
triple_used u q =
    cond (ltb q 9) (place_used u q)  -- positions of the points
    (cond (ltb q 18) (place_used u (q - 9))  -- velocities of the points
    (cond (ltb q 27) (acceleration_used u (q - 18))  -- accelerations
    (cond (ltb q 30) (ltb (q - 27) u.slopes)  -- slopes
    (cond (ltb q 32) u.state  -- the newest point's position and velocity
    (cond (ltb q 34) u.sums  -- s and S
    (cond (ltb q 36) u.trial  -- the open step's end
    (cond (ltb q 38) u.fixed  -- FA and FB
    true)))))))  -- settings, start, end and step

-- float k: triple 38 alone is used by parts, the largest change and acceleration, and the clock
unfoldable pub used : Uses → ℕ → Bool
used u k = cond (eqb (k / 3) 38) (cond (ltb k 116) u.widest u.clock) (triple_used u (k / 3))

unfoldable pub triples_of : Body → List Triple
triples_of b =
    at b.places.r 0 ∷ at b.places.r 1 ∷ at b.places.r 2 ∷ at b.places.r 3 ∷ at b.places.r 4 ∷ at b.places.r 5 ∷ at b.places.r 6 ∷ at b.places.r 7 ∷ at b.places.r 8
    ∷ at b.places.v 0 ∷ at b.places.v 1 ∷ at b.places.v 2 ∷ at b.places.v 3 ∷ at b.places.v 4 ∷ at b.places.v 5 ∷ at b.places.v 6 ∷ at b.places.v 7 ∷ at b.places.v 8
    ∷ at b.a 0 ∷ at b.a 1 ∷ at b.a 2 ∷ at b.a 3 ∷ at b.a 4 ∷ at b.a 5 ∷ at b.a 6 ∷ at b.a 7 ∷ at b.a 8
    ∷ b.slopes.l1 ∷ b.slopes.l2 ∷ b.slopes.l3
    ∷ b.track.state.r ∷ b.track.state.v ∷ b.track.sums.s ∷ b.track.sums.big_s
    ∷ b.trial.state.r ∷ b.trial.state.v ∷ b.trial.fixed.fa ∷ b.trial.fixed.fb
    ∷ record { x = b.widest.delta; y = b.widest.mag; z = b.track.t }
    ∷ record { x = b.plan.settings.h; y = b.plan.settings.corrector_tol; z = b.plan.settings.startup_tol }
    ∷ record { x = b.plan.t0; y = b.plan.tf; z = b.plan.h }
    ∷ []

-- component 0, 1 or 2
unfoldable pub component : Triple → ℕ → Float
component t i = cond (eqb i 0) t.x (cond (eqb i 1) t.y t.z)

-- float k of the 123
unfoldable pub float_no : List Triple → ℕ → Float
float_no ts k = component (at ts (k / 3)) (k % 3)
