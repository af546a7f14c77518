-- mu is the f64 nearest to 398600.4418, nearer than any other: `mu_nearest` in proofs/Nearest.antt is the proof.
use Rattle.std.specs.Prelude.{◌≡◌}
use Rattle.std.specs.Float.{binary64}
use Rattle.std.specs.Float.Ieee.{of_bits}
use Rattle.double.specs.Nearest.{IsNearestTo}
use Rattle.point_mass.specs.Force.{mu_decimal, mu}

abbrev pub NearestOfMu : Type 0
NearestOfMu = IsNearestTo mu_decimal mu

-- its pattern, as the code has it
abbrev pub PatternOfMu : Type 0
PatternOfMu = mu ≡ of_bits binary64 0x4118_5421_c467_381d
