-- 01: "A sample is ten f64: t, r, v, a. Sample n takes numbers 10n to 10n+9; nothing else is written." W-207: "a call names the sample number its
-- room begins at, b, and sample n takes the ten numbers from 10(n-b)"; "6 covers a sample before b".
use Rattle.std.specs.Prelude.{ℕ, ◌+◌, ◌-◌, ◌*◌, Bool, true, ◌&&◌, cond, List, [], ◌∷◌, leb, length, set, Float}
use Rattle.triple.specs.declared.Triple.{Triple}
use Rattle.triple.specs.declared.State.{State}
use Rattle.triple.specs.declared.Sample.{Sample}
use Rattle.triple.specs.Nine.{at}
use Rattle.triple.specs.Sampled.{sample_width}
use Rattle.startup.specs.Points.{time_at}
use Rattle.startup.specs.declared.Places.{Places}
use Rattle.plan.specs.declared.Plan.{Plan}
use Rattle.run.specs.declared.Track.{Track}

-- the room that a call lends: the sample that it begins at, b, and its numbers
pub data Room : Type 0 where
  tens : (from : ℕ) → List Float → Room

unfoldable pub numbers_of : Room → List Float
numbers_of (tens from numbers) = numbers

-- samples n to n + m - 1 all have their place among so many numbers: none stands before b, and the last has its ten
unfoldable pub is_placed : (from n m room : ℕ) → Bool
is_placed from n m room = leb from n && leb (sample_width * (n - from + m)) room

unfoldable pub has_room : ℕ → ℕ → Room → Bool
has_room n m (tens from numbers) = is_placed from n m (length numbers)

-- a sample's ten numbers from place i on
unfoldable pub written : (i : ℕ) → Sample → List Float → List Float
written i s numbers =
    set (set (set (set (set (set (set (set (set (set numbers
    i s.t)
    (i + 1) s.r.x) (i + 2) s.r.y) (i + 3) s.r.z)
    (i + 4) s.v.x) (i + 5) s.v.y) (i + 6) s.v.z)
    (i + 7) s.a.x) (i + 8) s.a.y) (i + 9) s.a.z

unfoldable pub put : ℕ → Sample → Room → Room
put n s (tens from numbers) = tens from (written (sample_width * (n - from)) s numbers)

-- a row of samples, the first of them sample n
unfoldable pub put_all : ℕ → List Sample → Room → Room
put_all n [] room = room
put_all n (s ∷ ss) room = put_all (n + 1) ss (put n s room)

-- ---- where samples are wanted: whether they have their place, and one that is kept
unfoldable pub has_place : (wanted : Bool) (from n m room : ℕ) → Bool
has_place wanted from n m room = cond wanted (is_placed from n m room) true

unfoldable pub kept_sample : (wanted : Bool) (from n : ℕ) → Sample → List Float → List Float
kept_sample wanted from n s numbers =
    cond wanted (cond (is_placed from n 1 (length numbers)) (written (sample_width * (n - from)) s numbers) numbers) numbers

-- ---- what is stored, and when
-- point i of the startup
unfoldable pub grid_sample : Plan → Places → List Triple → ℕ → Sample
grid_sample p x window i = record { t = time_at p.t0 p.h i; r = at x.r i; v = at x.v i; a = at window i }

-- after the startup: "with samples, points 4 to 8 are stored"
unfoldable pub start_samples : Plan → Places → List Triple → List Sample
start_samples p x window = grid_sample p x window 4 ∷ grid_sample p x window 5 ∷ grid_sample p x window 6 ∷ grid_sample p x window 7 ∷ grid_sample p x window 8 ∷ []

-- after a commit: the newest point, with the newest acceleration
unfoldable pub step_sample : Track → List Triple → Sample
step_sample k window = record { t = k.t; r = k.state.r; v = k.state.v; a = at window 8 }

-- after the tail, at tf
unfoldable pub last_sample : Plan → State → Triple → Sample
last_sample p y a = record { t = p.tf; r = y.r; v = y.v; a = a }

-- the startup's samples one after the other, where samples are wanted
unfoldable pub kept_point : (wanted : Bool) (from : ℕ) → Plan → Places → List Triple → (i : ℕ) → List Float → List Float
kept_point wanted from p x window i numbers = kept_sample wanted from (i - 4) (grid_sample p x window i) numbers

unfoldable pub kept_points : (wanted : Bool) (from : ℕ) → Plan → Places → List Triple → List Float → List Float
kept_points wanted from p x window numbers =
    kept_point wanted from p x window 8
    (kept_point wanted from p x window 7
    (kept_point wanted from p x window 6
    (kept_point wanted from p x window 5
    (kept_point wanted from p x window 4 numbers))))
