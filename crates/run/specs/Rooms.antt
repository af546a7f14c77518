-- The room as the code passes it on: a struct, and the room that this is.
use Rattle.std.specs.Prelude.{◌≡◌}
use Rattle.run.specs.declared.samples.Room.{Room as Lent}
use Rattle.run.specs.Samples.{Room, tens}

abbrev pub room_of : Lent → Room
room_of l = tens l.from l.numbers.now

-- a call that was lent l leaves it as m, with `room` behind the same reference
abbrev pub Leaves : (l m : Lent) → Room → Type 0
Leaves l m room = (m.numbers.ghost_name ≡ l.numbers.ghost_name) × (room_of m ≡ room)
