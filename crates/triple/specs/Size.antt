-- 02, W-204: "The size becomes the square root of (((x·x + y·y) + z·z)/3), the root rounded once to nearest, ties to even". It stands in for 01's choice.
-- Beside it the absolute value, the larger of two floats, and 1e-30.
use Rattle.std.specs.Prelude.{◌^◌, false, cond, pos, Float}
use Rattle.std.specs.Float.{nan, inf, fin, binary64}
use Rattle.std.specs.Float.Ieee.{round, add, mul, div, lt}
use Rattle.root.specs.Root.{root_of}
use Rattle.triple.specs.declared.Triple.{Triple}

unfoldable pub absolute : Float → Float
absolute nan = nan
absolute (inf s) = inf false
absolute (fin s m e) = fin false m e

-- a, unless b is greater
unfoldable pub larger_of : Float → Float → Float
larger_of a b = cond (lt a b) b a

abbrev pub three : Float
three = fin false 3 (pos 0)

unfoldable pub square : Float → Float
square x = mul binary64 x x

-- ((x·x + y·y) + z·z)/3
unfoldable pub mean_square : Triple → Float
mean_square a = div binary64 (add binary64 (add binary64 (square a.x) (square a.y)) (square a.z)) three

unfoldable pub size_of : Triple → Float
size_of a = root_of (mean_square a)

-- 01's 1e-30, the double nearest to it: what keeps a quotient of sizes from a zero below
unfoldable pub tiny : Float
tiny = round binary64 false 1 (10 ^ 30)
