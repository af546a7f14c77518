-- How decimals are read: a few of them, each as the fraction that it is.
use mathlib.Core.Path.{◌≡◌, refl}
use Prim.Native.Nat.{◌^◌}
use lib.IntN.{pos, negsuc}
use Rattle.double.specs.Fraction.{minus◌}
use Rattle.double.specs.Decimal.{◌e-◌, ◌e+◌}

-- 1.004e-05
small : 1_004 e- 5 ≡ record { over = pos 1004; under = 10 ^ 8 }
small = refl

-- 2.5e+01
large : 2_5 e+ 1 ≡ record { over = pos 250; under = 10 }
large = refl

-- -5e-1
negative : minus 5 e- 1 ≡ record { over = negsuc 4; under = 10 }
negative = refl

-- 1.2345678901234567e+00
long : 1_2345678901234567 e+ 0 ≡ record { over = pos 12345678901234567; under = 10 ^ 16 }
long = refl
