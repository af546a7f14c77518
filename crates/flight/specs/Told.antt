-- What the calls of `fly_on` hand out, one after the other, is the story: `tells_the_story` in proofs/Telling.antt.
use Rattle.std.specs.Prelude.{◌≡◌, ℕ, zero, suc, ◌+◌, ◌-◌, false, List, [], ◌∷◌, ◌++◌, Float}
use Rattle.triple.specs.declared.Triple.{Triple}
use Rattle.plan.specs.declared.Settings.{Settings}
use Rattle.intervals.specs.Table.{sample_of}
use Rattle.flight.specs.declared.Flight.{Flight}
use Rattle.flight.specs.Flight.{is_asking, ending_of, Flown, taken_off, flown_on}
use Rattle.flight.specs.Story.{Entry, Story, before, story_of}

-- m samples of a room, from the i-th on, which is sample n: the i-th has the ten numbers from place 10i on
unfoldable pub read_from : (m i n : ℕ) → List Float → List Entry
read_from zero i n numbers = []
read_from (suc m) i n numbers = record { number = n; sample = sample_of numbers i } ∷ read_from m (i + 1) (n + 1) numbers

-- a call hands out as many samples as the next number rose by
unfoldable pub handed_out : Flight → Flown → List Entry
handed_out f g = read_from (g.flight.next - f.next) 0 f.next g.out

-- call after call, each with a room of any length that holds anything
unfoldable pub flown_through : Flight → (rooms : List (List Float)) → Flight
flown_through f [] = f
flown_through f (numbers ∷ rooms) = flown_through (flown_on f numbers).flight rooms

unfoldable pub all_handed_out : Flight → (rooms : List (List Float)) → List Entry
all_handed_out f [] = []
all_handed_out f (numbers ∷ rooms) = handed_out f (flown_on f numbers) ++ all_handed_out (flown_on f numbers).flight rooms

-- at any time what was handed out begins the story; once no question is open it is all of it, and the flight ended as the story does
pub record TellsTheStory (s : Settings) (t0 tf : Float) (r0 v0 : Triple) (rooms : List (List Float)) : Type 0 where
  pub left : Story
  pub so_far : before (all_handed_out (taken_off s t0 tf r0 v0) rooms) left ≡ story_of s t0 tf r0 v0
  pub all : is_asking (flown_through (taken_off s t0 tf r0 v0) rooms) ≡ false
      → record { samples = all_handed_out (taken_off s t0 tf r0 v0) rooms; ending = ending_of (flown_through (taken_off s t0 tf r0 v0) rooms) } ≡ story_of s t0 tf r0 v0
