-- Whoever calls on comes to the end: `always_ends` in proofs/Ending.antt.
use Rattle.std.specs.Prelude.{◌≡◌, ◌*◌, ◌≤◌, false, List, [], ◌∷◌, length, Float}
use Rattle.triple.specs.declared.Triple.{Triple}
use Rattle.triple.specs.Sampled.{sample_width}
use Rattle.plan.specs.declared.Settings.{Settings}
use Rattle.run.specs.Limits.{ample}
use Rattle.flight.specs.Flight.{is_asking, ending_of, taken_off}
use Rattle.flight.specs.Story.{story_of}
use Rattle.flight.specs.Told.{flown_through, all_handed_out}

-- each room has place for five samples
unfoldable pub Fifty : (rooms : List (List Float)) → Type 0
Fifty [] = Unit {0}
Fifty (numbers ∷ rooms) = (sample_width * 5 ≤ length numbers) × Fifty rooms

-- no question is open, and the whole story was handed out
pub record EndsTold (s : Settings) (t0 tf : Float) (r0 v0 : Triple) (rooms : List (List Float)) : Type 0 where
  pub over : is_asking (flown_through (taken_off s t0 tf r0 v0) rooms) ≡ false
  pub told : record { samples = all_handed_out (taken_off s t0 tf r0 v0) rooms; ending = ending_of (flown_through (taken_off s t0 tf r0 v0) rooms) } ≡ story_of s t0 tf r0 v0

-- after so many calls: `ample` is above every count of answers
abbrev pub AlwaysEnds : Type 0
AlwaysEnds = (s : Settings) (t0 tf : Float) (r0 v0 : Triple) (rooms : List (List Float)) → Fifty rooms → ample ≤ length rooms → EndsTold s t0 tf r0 v0 rooms
