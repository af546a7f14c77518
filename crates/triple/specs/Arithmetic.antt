-- 01: "Vector operations are taken component by component; each product and each sum is rounded once, and division is a true division".
use Rattle.std.specs.Prelude.{Float}
use Rattle.std.specs.Float.{binary64}
use Rattle.std.specs.Float.Ieee.{add, sub, mul, div}
pub use Rattle.double.specs.Doubles.{nought}
use Rattle.triple.specs.declared.Triple.{Triple}

abbrev pub thrice : Float → Triple
thrice x = record { x = x; y = x; z = x }

unfoldable pub zeros : Triple
zeros = record { x = nought; y = nought; z = nought }

unfoldable pub plus : Triple → Triple → Triple
plus a b = record { x = add binary64 a.x b.x; y = add binary64 a.y b.y; z = add binary64 a.z b.z }

unfoldable pub minus : Triple → Triple → Triple
minus a b = record { x = sub binary64 a.x b.x; y = sub binary64 a.y b.y; z = sub binary64 a.z b.z }

unfoldable pub times : Triple → Float → Triple
times a k = record { x = mul binary64 a.x k; y = mul binary64 a.y k; z = mul binary64 a.z k }

unfoldable pub over : Triple → Float → Triple
over a k = record { x = div binary64 a.x k; y = div binary64 a.y k; z = div binary64 a.z k }
