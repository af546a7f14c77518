-- What Rattle's types say of an f64: binary64 holds it. Promises about bits, or about a number that comes back as it was, speak of such numbers.
use Rattle.std.specs.Prelude.{false, pos, T, Float}
use Rattle.std.specs.Float.{fin, binary64}
use Rattle.std.specs.Float.Ieee.{fits}

-- an f64
abbrev pub Double : Float → Type 0
Double x = T (fits binary64 x)

-- 0.0, what every sum starts from
abbrev pub nought : Float
nought = fin false 0 (pos 0)
