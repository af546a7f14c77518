-- A double and its bit pattern: it is read back from that, so two with one pattern are the same.
use mathlib.Core.Path.{◌≡◌, refl, sym, ap, ◌∙◌}
use Prim.Native.Nat.{ℕ}
use mathlib.Core.Bool.{not}
use lib.Dec.{T, eqb, eqb→eq}
use lib.Ieee.{Float, nan, inf, fin, binary64, neg, fits, of_bits, to_bits}
use lib.Ieee.Bits.{of_bits-to_bits}
use Rattle.double.specs.Doubles.{Double}
use Rattle.double.proofs.Own.{any_sign}

pub read_back : (x : Float) (b : ℕ) → Double x → to_bits binary64 x ≡ b → of_bits binary64 b ≡ x
read_back x b F e = ap (of_bits binary64) (sym e) ∙ of_bits-to_bits binary64 x F

pub bits_tell : (x y : Float) → Double x → Double y → T (eqb (to_bits binary64 x) (to_bits binary64 y)) → x ≡ y
bits_tell x y F G t = sym (read_back x (to_bits binary64 y) F (eqb→eq (to_bits binary64 x) (to_bits binary64 y) t)) ∙ read_back y (to_bits binary64 y) G refl

pub double_neg : (x : Float) → Double x → Double (neg x)
unfolding neg fits
double_neg nan F = tt
double_neg (inf s) F = tt
double_neg (fin s m e) F = any_sign s (not s) m e F
