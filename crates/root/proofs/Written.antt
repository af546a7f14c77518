-- The pattern of a root, from its digits.
use mathlib.Core.Path.{◌≡◌, sym, ap, ◌∙◌, subst}
use Prim.Native.Nat.{ℕ, ◌+◌, ◌-◌, ◌*◌, ◌/◌, ◌^◌}
use native.Mathlib.Nat.{mul-div_cancel}
use native.Mathlib.Omega.{arith}
use mathlib.Core.Bool.{Bool, true, false, not, true≢false}
use lib.Dec.{T}
use lib.Pow.{pow_pos}
use lib.Ieee.{inf, nan, Float, fin, binary64, up, down, size, is_nan, nan_bits, of_bits, to_bits}
use lib.Ieee.Fits.{down_pos}
use lib.Ieee.Bits.{nan_bits_is}
use Rattle.double.proofs.Patterns.{read_back}
use Rattle.double.proofs.Units.{Units}
use Rattle.root.specs.Root.{root_of_units}
use Rattle.root.specs.Parts.{Rounded}
use Rattle.root.proofs.Rounding.{root_units, root_digits_lem, root_double}

bits_of_units : (v : Float) (a : ℕ) → Units v a → to_bits binary64 v ≡ (size a - 53) * 2 ^ 52 + a / 2 ^ (size a - 53)
unfolding to_bits
bits_of_units lib.Ieee.nan a h = elim h [ ]
bits_of_units (lib.Ieee.inf _) a h = elim h [ ]
bits_of_units (fin true m e) a h = absurd (true≢false h.0)
bits_of_units (fin false m e) a h =
    let u : m * up e * 2 ^ 1074 / down e ≡ a = ap (λ (x : ℕ). x / down e) h.1 ∙ mul-div_cancel a (down_pos e) in
    ap (λ (x : ℕ). 0 + (size x - 53) * 2 ^ 52 + x / 2 ^ (size x - 53)) u
    ∙ zero_left ((size a - 53) * 2 ^ 52) (a / 2 ^ (size a - 53))
  where
    zero_left : (x y : ℕ) → 0 + x + y ≡ x + y
    zero_left x y = omega arith

pub written : (n r : ℕ) → Rounded n r → of_bits binary64 r ≡ root_of_units n
written n r R =
    let q = R.q in
    let k = R.k in
    let b : to_bits binary64 (root_of_units n) ≡ r =
    bits_of_units (root_of_units n) (q * 2 ^ k) (root_units n q k R.between) ∙ ap (λ (x : ℕ). x * 2 ^ 52 + q * 2 ^ k / 2 ^ x) (root_digits_lem n q k R.between) ∙ ap (λ (x : ℕ). k * 2 ^ 52 + x) (mul-div_cancel q (pow_pos k)) ∙ sym R.is in
    read_back (root_of_units n) r (root_double n) b

pub no_nan : (n r : ℕ) → Rounded n r → T (not (nan_bits binary64 r))
unfolding is_nan
no_nan n r R = subst (λ (b : Bool). T (not b)) (sym (nan_bits_is binary64 r ∙ ap is_nan (written n r R))) (number (root_of_units n) (R.q * 2 ^ R.k) (root_units n R.q R.k R.between))
  where
    number : (v : Float) (a : ℕ) → Units v a → T (not (is_nan v))
    number nan a h = elim h [ ]
    number (inf _) a h = elim h [ ]
    number (fin s m e) a h = tt
