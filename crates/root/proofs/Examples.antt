-- Worked examples, by computing: the roots of some values, by their patterns.
use mathlib.Core.Path.{◌≡◌, refl}
use mathlib.Core.Bool.{true}
use lib.IntN.{pos}
use lib.Ieee.{nan, fin, binary64, of_bits}
use Rattle.root.specs.Root.{root_of}

-- 2.0
two : root_of (of_bits binary64 0x4000000000000000) ≡ of_bits binary64 0x3ff6a09e667f3bcd
unfolding root_of of_bits
two = refl

-- 0.1
a_tenth : root_of (of_bits binary64 0x3fb999999999999a) ≡ of_bits binary64 0x3fd43d136248490f
unfolding root_of of_bits
a_tenth = refl

-- 5e-324
smallest : root_of (of_bits binary64 0x0000000000000001) ≡ of_bits binary64 0x1e60000000000000
unfolding root_of of_bits
smallest = refl

-- 2.2250738585072014e-308
smallest_normal : root_of (of_bits binary64 0x0010000000000000) ≡ of_bits binary64 0x2000000000000000
unfolding root_of of_bits
smallest_normal = refl

-- 2.225073858507201e-308
largest_subnormal : root_of (of_bits binary64 0x000fffffffffffff) ≡ of_bits binary64 0x1fffffffffffffff
unfolding root_of of_bits
largest_subnormal = refl

-- 1.7976931348623157e+308
largest : root_of (of_bits binary64 0x7fefffffffffffff) ≡ of_bits binary64 0x5fefffffffffffff
unfolding root_of of_bits
largest = refl

-- 9.0
nine : root_of (of_bits binary64 0x4022000000000000) ≡ of_bits binary64 0x4008000000000000
unfolding root_of of_bits
nine = refl

-- 0.9999999999999999
below_one : root_of (of_bits binary64 0x3fefffffffffffff) ≡ of_bits binary64 0x3fefffffffffffff
unfolding root_of of_bits
below_one = refl

-- 1.0000000000000002
above_one : root_of (of_bits binary64 0x3ff0000000000001) ≡ of_bits binary64 0x3ff0000000000000
unfolding root_of of_bits
above_one = refl

minus_zero : root_of (fin true 0 (pos 0)) ≡ fin true 0 (pos 0)
unfolding root_of
minus_zero = refl

minus_two : root_of (of_bits binary64 0xc000_0000_0000_0000) ≡ nan
unfolding root_of of_bits
minus_two = refl
