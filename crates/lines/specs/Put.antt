-- Bytes put into a list, from a place on.
use Rattle.std.specs.Prelude.{ℕ, suc, ◌+◌, cond, List, [], ◌∷◌, leb, length, set}

-- the list with these bytes at the places from `at` on
unfoldable pub over : ℕ → List ℕ → List ℕ → List ℕ
over at [] l = l
over at (b ∷ bytes) l = over (suc at) bytes (set l at b)

-- the same where all of them have room there; else the list as it is
unfoldable pub put : List ℕ → ℕ → List ℕ → List ℕ
put bytes at l = cond (leb (at + length bytes) (length l)) (over at bytes l) l

-- the place after them; where they have no room, `at`
unfoldable pub after : List ℕ → ℕ → List ℕ → ℕ
after bytes at l = cond (leb (at + length bytes) (length l)) (at + length bytes) at
