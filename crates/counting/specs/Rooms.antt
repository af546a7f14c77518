-- W-207: "Demand 3's room is then room for the samples due at each call." And two ways to have it: the proofs are `each_has_room`, by
-- `room_for_all`, `five_suffice` and `fifty_numbers` in proofs/Rooms.antt.
use Rattle.std.specs.Prelude.{◌≡◌, ℕ, ◌+◌, ◌*◌, ◌≤◌, true, cond, List, [], ◌∷◌, eqb, ℤ, nat_abs, length, Float}
use Rattle.triple.specs.declared.Triple.{Triple}
use Rattle.triple.specs.Sampled.{sample_width}
use Rattle.plan.specs.declared.Settings.{Settings}
use Rattle.plan.specs.Limits.{wants_samples}
use Rattle.run.specs.Samples.{Room, tens, has_room}
use Rattle.rules.specs.Rules.{Course, asks, stores, ends, exceeds}
use Rattle.rules.specs.Walk.{Call, Line, open_at, over, called, begin}
use Rattle.counting.specs.Counting.{span_of, steps_for, Bounds}

-- the samples due before the next question or the end have their place
unfoldable pub Holds : Room → Course → Type 0
Holds room (asks q k) = Unit {0}
Holds room (stores n ss c) = (has_room n (length ss) room ≡ true) × Holds room c
Holds room (ends t y steps startups) = Unit {0}
Holds room exceeds = Unit {0}

-- a call that answers the open question has room for the samples due at it
unfoldable pub RoomAt : Line → Call → Type 0
RoomAt (open_at n e q k) c = eqb n c.number ≡ true → Holds c.out (k c.a)
RoomAt over c = Unit {0}

-- so has each of the calls
unfoldable pub Roomy : Line → List Call → Type 0
Roomy l [] = Unit {0}
Roomy l (c ∷ cs) = RoomAt l c × Roomy (called l c).line cs

-- ---- one room for all: every call's room has place for samples 0 to n - 1
unfoldable pub Ample : (n : ℕ) → List Call → Type 0
Ample n [] = Unit {0}
Ample n (c ∷ cs) = (has_room 0 n c.out ≡ true) × Ample n cs

-- K + 1 samples, if they are wanted
unfoldable pub room_for : Settings → (span step : ℕ) → ℕ
room_for s span step = cond (wants_samples s) (steps_for span step + 1) 0

abbrev pub RoomForAll : Type 0
RoomForAll =
    (s : Settings) (t0 tf : Float) (z0 zf hz : ℤ) (r0 v0 : Triple) (cs : List Call) → Bounds s t0 tf z0 zf hz → Ample (room_for s (span_of z0 zf) (nat_abs hz)) cs
    → Roomy (begin s t0 tf r0 v0).line cs

-- ---- a small one: after n samples told as stored, every call's room has place for the next five, as fifty numbers that begin at sample n have
unfoldable pub FiveMore : (n : ℕ) → Line → List Call → Type 0
FiveMore n l [] = Unit {0}
FiveMore n l (c ∷ cs) = (has_room n 5 c.out ≡ true) × FiveMore (n + (called l c).stored) (called l c).line cs

-- for any start at all
abbrev pub FiveSuffice : Type 0
FiveSuffice = (s : Settings) (t0 tf : Float) (r0 v0 : Triple) (cs : List Call) → FiveMore 0 (begin s t0 tf r0 v0).line cs → Roomy (begin s t0 tf r0 v0).line cs

abbrev pub FiftyNumbers : Type 0
FiftyNumbers = (n : ℕ) (numbers : List Float) → sample_width * 5 ≤ length numbers → has_room n 5 (tens n numbers) ≡ true
