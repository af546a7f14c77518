-- What the pattern of a number above zero says of it.
use mathlib.Core.Path.{◌≡◌, refl, sym, ap, ◌∙◌, subst}
use Prim.Native.Nat.{ℕ, zero, suc, ◌+◌, ◌*◌, ◌/◌, ◌%◌, ◌^◌, ◌<◌}
use native.Mathlib.Nat.{mul-div_cancel, mul-one, mod-eq_of_lt}
use native.Mathlib.Omega.{arith}
use mathlib.Core.Bool.{Bool, true, false, not, cond}
use lib.IntN.{ℤ}
use lib.Dec.{T, leb, eqb, nleb→lt, eqb→eq}
use lib.Ieee.{Float, nan, inf, fin, binary64, down, odd, of_fields, of_bits, to_bits}
use lib.Ieee.Fits.{down_pos}
use lib.Ieee.Exact.{HasValue, odd_sign}
use lib.Ieee.Bits.{of_bits-to_bits}
use Rattle.double.specs.Doubles.{Double}
use Rattle.double.specs.Units.{in_units}
use Rattle.root.specs.Parts.{units_at, units_of}

-- what the fields of a pattern say, where it is read as a positive number
pub record Fields (s : Bool) (x t m : ℕ) (e : ℤ) : Type 0 where
  pub plus : s ≡ false
  pub field : x < 2047
  pub units : in_units m e ≡ units_at x t

abbrev IsFin : Float → Type 0
IsFin nan = ⊥
IsFin (inf s) = ⊥
IsFin (fin s m e) = Unit

of_odd : (s : Bool) (q k m : ℕ) (e : ℤ) → odd 53 s q k 1074 ≡ fin false m e → (s ≡ false) × (in_units m e ≡ q * 2 ^ k)
unfolding in_units
of_odd s q k m e p =
    let v : HasValue (fin false m e) s (q * 2 ^ k) (2 ^ 1074) = subst (λ (f : Float). HasValue f s (q * 2 ^ k) (2 ^ 1074)) p (odd_sign 53 s q k 1074) in
    (sym v.0, ap (λ (x : ℕ). x / down e) v.1 ∙ mul-div_cancel (q * 2 ^ k) (down_pos e))

fields_say : (s : Bool) (x t m : ℕ) (e : ℤ) → x < 2048 → of_fields binary64 s x t ≡ fin false m e → Fields s x t m e
unfolding of_fields units_at
fields_say s zero t m e h p = let o = of_odd s t 0 m e p in record { plus = o.0; field = omega arith; units = o.1 ∙ mul-one t }
fields_say s (suc x) t m e h p = go (eqb (suc x) 2047) (eqb→eq (suc x) 2047) (λ (z : suc x ≡ 2047). subst (λ (y : ℕ). T (eqb y 2047)) (sym z) tt) p
  where
    no : (b : Bool) → cond b (inf s) nan ≡ fin false m e → ⊥
    no true p = subst IsFin (sym p) tt
    no false p = subst IsFin (sym p) tt

    go : (b : Bool) → (T b → suc x ≡ 2047) → (suc x ≡ 2047 → T b) → cond b (cond (eqb t 0) (inf s) nan) (odd 53 s (2 ^ 52 + t) x 1074) ≡ fin false m e → Fields s (suc x) t m e
    go true f g p = absurd (no (eqb t 0) p)
    go false f g p = let o = of_odd s (2 ^ 52 + t) x m e p in record { plus = o.0; field = less x h g; units = o.1 }
      where
        less : (x : ℕ) → suc x < 2048 → (suc x ≡ 2047 → ⊥) → suc x < 2047
        less x h g = omega arith

pub record Read (b m : ℕ) (e : ℤ) : Type 0 where
  pub some : 0 < b
  pub few : b < 0x7ff0_0000_0000_0000
  pub units : in_units m e ≡ units_of b

of_bits_is : (b : ℕ) → of_bits binary64 b ≡ of_fields binary64 (leb (2 ^ 63) b) (b % 2 ^ 63 / 2 ^ 52) (b % 2 ^ 52)
unfolding of_bits
of_bits_is b = refl

zero_is : (m : ℕ) (e : ℤ) → of_bits binary64 0 ≡ fin false (suc m) e → ⊥
unfolding of_bits
zero_is m e p = let z : ◌≡◌ {A = ℕ} 0 (suc m) = cc in omega arith

pub read : (m : ℕ) (e : ℤ) → Double (fin false (suc m) e) → Read (to_bits binary64 (fin false (suc m) e)) (suc m) e
read m e F = go (to_bits binary64 (fin false (suc m) e)) (of_bits-to_bits binary64 (fin false (suc m) e) F)
  where
    pos_b : (b : ℕ) → of_bits binary64 b ≡ fin false (suc m) e → 0 < b
    pos_b zero p = absurd (zero_is m e p)
    pos_b (suc b) p = omega arith

    go : (b : ℕ) → of_bits binary64 b ≡ fin false (suc m) e → Read b (suc m) e
    go b p =
        let f = fields_say (leb (2 ^ 63) b) (b % 2 ^ 63 / 2 ^ 52) (b % 2 ^ 52) (suc m) e (small b) (sym (of_bits_is b) ∙ p) in
        let l : b < 2 ^ 63 = nleb→lt (2 ^ 63) b (subst (λ (c : Bool). T (not c)) (sym f.plus) tt) in
        let w : b % 2 ^ 63 ≡ b = mod-eq_of_lt l in
        let x : b / 2 ^ 52 < 2047 = subst (λ (z : ℕ). z / 2 ^ 52 < 2047) w f.field in
        record {
          some = pos_b b p;
          few = top b x;
          units = f.units ∙ ap (λ (z : ℕ). units_at (z / 2 ^ 52) (b % 2 ^ 52)) w;
        }
      where
        small : (b : ℕ) → b % 2 ^ 63 / 2 ^ 52 < 2048
        small b = omega arith

        top : (b : ℕ) → b / 2 ^ 52 < 2047 → b < 0x7ff0_0000_0000_0000
        top b h = omega arith
