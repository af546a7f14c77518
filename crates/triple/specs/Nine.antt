-- Nine triples: the points of a startup, and the window of accelerations that slides.
use Rattle.std.specs.Prelude.{ℕ, List, [], ◌∷◌, get_or}
use Rattle.std.specs.Float.{nan}
use Rattle.triple.specs.declared.Triple.{Triple}
use Rattle.triple.specs.Arithmetic.{thrice, zeros}

-- triple i of a list; past its end three NaN
abbrev pub at : List Triple → ℕ → Triple
at l i = get_or l i (thrice nan)

unfoldable pub nine_zeros : List Triple
nine_zeros = zeros ∷ zeros ∷ zeros ∷ zeros ∷ zeros ∷ zeros ∷ zeros ∷ zeros ∷ zeros ∷ []

-- the oldest goes, t comes in as the newest
unfoldable pub slid : List Triple → Triple → List Triple
slid l t = at l 1 ∷ at l 2 ∷ at l 3 ∷ at l 4 ∷ at l 5 ∷ at l 6 ∷ at l 7 ∷ at l 8 ∷ t ∷ []
