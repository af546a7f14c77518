-- A NaN stays a NaN, and nothing is below it.
use mathlib.Core.Path.{◌≡◌, refl}
use mathlib.Core.Bool.{false}
use lib.Ieee.{Float, nan, inf, fin, binary64, add, mul, lt}

pub nan_plus : (y : Float) → add binary64 nan y ≡ nan
unfolding add
nan_plus y = refl

pub add_nan : (x : Float) → add binary64 x nan ≡ nan
unfolding add
add_nan nan = refl
add_nan (inf s) = refl
add_nan (fin s m e) = refl

pub mul_nan : (x : Float) → mul binary64 x nan ≡ nan
unfolding mul
mul_nan nan = refl
mul_nan (inf s) = refl
mul_nan (fin s m e) = refl

pub none_below : (x : Float) → lt x nan ≡ false
unfolding lt
none_below nan = refl
none_below (inf s) = refl
none_below (fin s m e) = refl
