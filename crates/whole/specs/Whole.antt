-- "whole": the float is the whole number z, and -0.0 counts as 0. Up to 2^53 in size the conversion changes nothing.
use Rattle.std.specs.Prelude.{◌≡◌, ◌⊎◌, ℤ, pos, Float}
use Rattle.std.specs.Float.{binary64}
use Rattle.std.specs.Float.Ieee.{neg, of_int}
use Rattle.triple.specs.Arithmetic.{nought}

abbrev pub IsWhole : Float → ℤ → Type 0
IsWhole x z = (x ≡ of_int binary64 z) ⊎ ((z ≡ pos 0) × (x ≡ neg nought))
