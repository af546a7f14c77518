-- 02, W-204: "the root rounded once to nearest, ties to even, proved against a statement over whole numbers". This is the statement; that `root_of` is
-- what it says, and nothing else is, are `RootIs` and `RootOnly` in specs/Root.antt. An f64 that is finite is a whole number of units of 2 ^ -1074
-- (`units_in`). If x is n of them, its root is √(n * 2 ^ 1074) of them.
use Rattle.std.specs.Prelude.{◌≡◌, ℕ, zero, suc, ◌+◌, ◌-◌, ◌*◌, ◌^◌, ◌<◌, true, false, Float}
use Rattle.std.specs.Float.{nan, inf, fin}
use Rattle.double.specs.Doubles.{Double}
use Rattle.double.specs.Units.{in_units, units_in, NotNegative}

-- √n is nearer to r than to y: it lies on r's side of (r + y) / 2; where y is r there is nothing to say
abbrev pub Nearer : ℕ → ℕ → ℕ → Type 0
Nearer n r y = (r < y → 4 * n < (r + y) * (r + y)) × (y < r → (r + y) * (r + y) < 4 * n)

-- √n is nearer to r than to -y: it lies above (r - y) / 2; where y is more than r, r - y is 0 here, and √n above 0 suffices
abbrev pub NearerThanMinus : ℕ → ℕ → ℕ → Type 0
NearerThanMinus n r y = (r - y) * (r - y) < 4 * n

-- √n units are nearer to r units than to the float y; an infinity is nowhere near, and a NaN is no number
abbrev pub NearerThan : ℕ → ℕ → Float → Type 0
NearerThan n r nan = Unit
NearerThan n r (inf s) = Unit
NearerThan n r (fin true m e) = NearerThanMinus n r (in_units m e)
NearerThan n r (fin false m e) = Nearer n r (in_units m e)

-- r is the f64 nearest to √x, and no other is as near: so no tie is left that would have to go to even
pub record IsNearest (x r : Float) : Type 0 where
  pub double : Double r
  pub plus : NotNegative r
  pub nearest : (y : Float) → Double y → NearerThan (units_in x * 2 ^ 1074) (units_in r) y

-- r is the root of x: NaN of a NaN and of what is below zero; a zero keeps its sign, an infinity stays
abbrev pub IsRoot : Float → Float → Type 0
IsRoot nan r = r ≡ nan
IsRoot (inf true) r = r ≡ nan
IsRoot (inf false) r = r ≡ inf false
IsRoot (fin s zero e) r = r ≡ fin s zero e
IsRoot (fin true (suc m) e) r = r ≡ nan
IsRoot (fin false (suc m) e) r = IsNearest (fin false (suc m) e) r
