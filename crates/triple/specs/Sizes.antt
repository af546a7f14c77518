-- What the size is at its edges, for every triple.
use Rattle.std.specs.Prelude.{◌≡◌, Bool, true, false, ◌&&◌, ◌||◌, Float}
use Rattle.std.specs.Float.{nan, inf, fin}
use Rattle.std.specs.Float.Ieee.{eq, is_nan}
use Rattle.triple.specs.declared.Triple.{Triple}
use Rattle.triple.specs.Arithmetic.{nought}
use Rattle.triple.specs.Size.{absolute, square, size_of}

abbrev pub has_nan : Triple → Bool
has_nan a = is_nan a.x || is_nan a.y || is_nan a.z

abbrev pub is_infinite : Float → Bool
is_infinite nan = false
is_infinite (inf s) = true
is_infinite (fin s m e) = false

-- of a triple with a NaN component it is NaN
abbrev pub NanSize : Type 0
NanSize = (a : Triple) → has_nan a ≡ true → size_of a ≡ nan

-- of one with a square that overflows, or an infinite component, it is infinite
abbrev pub InfiniteSize : Type 0
InfiniteSize = (a : Triple) → has_nan a ≡ false → is_infinite (square a.x) || is_infinite (square a.y) || is_infinite (square a.z) ≡ true → size_of a ≡ inf false

-- of one whose squares all underflow to zero, it is zero
abbrev pub ZeroSize : Type 0
ZeroSize = (a : Triple) → eq (square a.x) nought && eq (square a.y) nought && eq (square a.z) nought ≡ true → size_of a ≡ nought

-- signs do not count: with absolute values taken first, as the module does, it is the same
abbrev pub SignsDoNotCount : Type 0
SignsDoNotCount = (a : Triple) → size_of (record { x = absolute a.x; y = absolute a.y; z = absolute a.z }) ≡ size_of a
