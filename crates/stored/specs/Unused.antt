-- What two private helpers find, which look for unused words that are not zero triple by triple. No promise to a caller cites this file.
use Rattle.std.specs.Prelude.{ℕ, ◌+◌, Bool, List, get_or}
use Rattle.stored.specs.declared.layout.Uses.{Uses}
use Rattle.stored.specs.Taken.{still_zero}

-- the six words of a triple from word j on
unfoldable pub six_zero : List ℕ → (j : ℕ) → (is_used so_far : Bool) → Bool
six_zero c j d z =
    still_zero (still_zero (still_zero (still_zero (still_zero (still_zero z d (get_or c j 0)) d (get_or c (j + 1) 0)) d (get_or c (j + 2) 0)) d (get_or c (j + 3) 0)) d (get_or c (j + 4) 0)) d (get_or c (j + 5) 0)

-- those of triple 38, which is used by parts
unfoldable pub middle_zero : List ℕ → Uses → (so_far : Bool) → Bool
middle_zero c u z =
    let w = still_zero (still_zero (still_zero (still_zero z u.widest (get_or c 234 0)) u.widest (get_or c 235 0)) u.widest (get_or c 236 0)) u.widest (get_or c 237 0) in
    still_zero (still_zero w u.clock (get_or c 238 0)) u.clock (get_or c 239 0)
