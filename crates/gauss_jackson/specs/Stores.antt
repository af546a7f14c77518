-- W-207: a call tells how many samples it stored. For any run and any call that is what it wrote: so many samples, one after the other, each in its
-- place, and no other number of the room. The proof is `stored_is_written` in proofs/Stores.antt.
use Rattle.std.specs.Prelude.{◌≡◌, ℕ, true, ◌⊎◌, List, length}
use Rattle.triple.specs.declared.Triple.{Triple}
use Rattle.triple.specs.declared.Sample.{Sample}
use Rattle.run.specs.declared.Run.{Run}
use Rattle.run.specs.Samples.{Room, has_room, put_all}
use Rattle.gauss_jackson.specs.Answers.{Given, answered}

-- 0, 1 or 5
abbrev pub IsNoneOneOrFive : ℕ → Type 0
IsNoneOneOrFive m = (m ≡ 0) ⊎ (m ≡ 1) ⊎ (m ≡ 5)

pub record StoresAsTold (x : Given) (room : Room) : Type 0 where
  pub first : ℕ
  pub samples : List Sample
  pub told : x.got.stored ≡ length samples
  pub few : IsNoneOneOrFive (length samples)
  pub placed : (length samples ≡ 0) ⊎ (has_room first (length samples) room ≡ true)
  pub written : x.out ≡ put_all first samples room

abbrev pub StoredIsWritten : Type 0
StoredIsWritten = (run : Run) (number : ℕ) (a : Triple) (room : Room) → StoresAsTold (answered run number a room) room
