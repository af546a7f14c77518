-- A pattern's value as a number with 53 digits times a power of two, and with an even exponent.
use mathlib.Core.Path.{◌≡◌, refl, sym, ap, ◌∙◌, subst}
use Prim.Native.Nat.{ℕ, zero, suc, ◌+◌, ◌-◌, ◌*◌, ◌/◌, ◌%◌, ◌^◌, ◌≤◌, ◌<◌}
use native.Mathlib.Nat.{mul-le-mul_right, mul-lt-mul_of_pos_right, mul_assoc, mul-one, lt_of_le_of_lt, mod-eq_of_lt, lt_of_not-le, not-le_of_lt, le_trans}
use native.Mathlib.Omega.{arith}
use lib.Dec.{lit≤}
use lib.Pow.{pow-add, pow_pos, pow_mono}
use lib.Count.{count_leading_zeros, leading_top}
use Rattle.root.specs.Parts.{units_at, units_of, Evened}

pub record Scaled (n m e : ℕ) : Type 0 where
  pub low : 2 ^ 52 ≤ m
  pub high : m < 2 ^ 53
  pub least : 1022 ≤ e
  pub most : e < 3200
  pub value : n ≡ m * 2 ^ e

-- ---- the exponent's field is 0: the digits are brought up to 53
pub record Brought (t z : ℕ) : Type 0 where
  pub low : 2 ^ 52 ≤ t * 2 ^ z
  pub high : t * 2 ^ z < 2 ^ 53
  pub some : 1 ≤ z
  pub most : z ≤ 52
  pub lead : count_leading_zeros 64 t ≡ z + 11

pub pow_lt_back : (i p : ℕ) → 2 ^ i < 2 ^ p → i < p
pow_lt_back i p h = lt_of_not-le (λ (g : p ≤ i). not-le_of_lt h (pow_mono g))

pub brought : (t : ℕ) → 0 < t → t < 2 ^ 52 → Brought t (count_leading_zeros 64 t - 11)
brought t h l =
    let w = leading_top 64 t h (omega arith) in
    let j = w.0 in
    let j_lt : j < 52 = pow_lt_back j 52 (lt_of_le_of_lt w.2 l) in
    let y = count_leading_zeros 64 t in
    let z = y - 11 in
    let e : y + suc j ≡ 64 = w.1 in
    let a : j + z ≡ 52 = omega arith in
    let b : suc j + z ≡ 53 = omega arith in
    record {
      low = subst (λ (x : ℕ). x ≤ t * 2 ^ z) (sym (pow-add 2 j z) ∙ ap (λ (x : ℕ). 2 ^ x) a) (mul-le-mul_right (2 ^ z) w.2);
      high = subst (λ (x : ℕ). t * 2 ^ z < x) (sym (pow-add 2 (suc j) z) ∙ ap (λ (x : ℕ). 2 ^ x) b) (mul-lt-mul_of_pos_right w.3 (pow_pos z));
      some = omega arith;
      most = omega arith;
      lead = omega arith;
    }

at_zero : (f t : ℕ) → f ≡ 0 → units_at f t ≡ t
unfolding units_at
at_zero zero t e = refl
at_zero (suc f) t e = absurd (omega arith)

at_suc : (f t : ℕ) → 0 < f → units_at f t ≡ (2 ^ 52 + t) * 2 ^ (f - 1)
unfolding units_at
at_suc zero t e = absurd (omega arith)
at_suc (suc f) t e = let p : f ≡ suc f - 1 = omega arith in ap (λ (x : ℕ). (2 ^ 52 + t) * 2 ^ x) p

pub scaled_low : (f t : ℕ) → f ≡ 0 → 0 < t → t < 2 ^ 52 → Scaled (units_at f t * 2 ^ 1074) (t * 2 ^ (count_leading_zeros 64 t - 11) % 2 ^ 64) (1074 - (count_leading_zeros 64 t - 11))
scaled_low f t e h l =
    let r = brought t h l in
    let z = count_leading_zeros 64 t - 11 in
    let lo = r.low in
    let hi = r.high in
    let so = r.some in
    let mo = r.most in
    let m : t * 2 ^ z % 2 ^ 64 ≡ t * 2 ^ z = mod-eq_of_lt {n = t * 2 ^ z} {m = 2 ^ 64} (omega arith) in
    let a : 1074 ≡ z + (1074 - z) = omega arith in
    record {
      low = subst (λ (x : ℕ). 2 ^ 52 ≤ x) (sym m) lo;
      high = subst (λ (x : ℕ). x < 2 ^ 53) (sym m) hi;
      least = omega arith;
      most = omega arith;
      value = ap (λ (x : ℕ). x * 2 ^ 1074) (at_zero f t e) ∙ ap (λ (x : ℕ). t * x) (ap (λ (x : ℕ). 2 ^ x) a ∙ pow-add 2 z (1074 - z)) ∙ sym (mul_assoc t (2 ^ z) (2 ^ (1074 - z))) ∙ ap (λ (x : ℕ). x * 2 ^ (1074 - z)) (sym m);
    }

pub scaled_high : (f t : ℕ) → 0 < f → f < 2047 → t < 2 ^ 52 → Scaled (units_at f t * 2 ^ 1074) (t + 2 ^ 52) (f + 1073)
scaled_high f t h k l =
    let a : f - 1 + 1074 ≡ f + 1073 = omega arith in
    let b : 2 ^ 52 + t ≡ t + 2 ^ 52 = omega arith in
    record {
      low = omega arith;
      high = omega arith;
      least = omega arith;
      most = omega arith;
      value =
          ap (λ (x : ℕ). x * 2 ^ 1074) (at_suc f t h)
          ∙ mul_assoc (2 ^ 52 + t) (2 ^ (f - 1)) (2 ^ 1074)
          ∙ ap (λ (x : ℕ). (2 ^ 52 + t) * x) (sym (pow-add 2 (f - 1) 1074) ∙ ap (λ (x : ℕ). 2 ^ x) a)
          ∙ ap (λ (x : ℕ). x * 2 ^ (f + 1073)) b;
    }

-- ---- an even exponent
halved : (m e : ℕ) → m * 2 ^ e ≡ m * (1 + e % 2) * (2 ^ (e / 2) * 2 ^ (e / 2))
halved m e = go (e % 2) refl
  where
    two : (m P : ℕ) → m * (2 * P) ≡ m * 2 * P
    two m P = omega arith

    go : (r : ℕ) → e % 2 ≡ r → m * 2 ^ e ≡ m * (1 + r) * (2 ^ (e / 2) * 2 ^ (e / 2))
    go zero z = let a : e ≡ e / 2 + e / 2 = omega arith in ap (λ (x : ℕ). m * x) (ap (λ (x : ℕ). 2 ^ x) a ∙ pow-add 2 (e / 2) (e / 2)) ∙ ap (λ (x : ℕ). x * (2 ^ (e / 2) * 2 ^ (e / 2))) (sym (mul-one m))
    go (suc zero) z =
        let a : e ≡ 1 + (e / 2 + e / 2) = omega arith in
        ap (λ (x : ℕ). m * x) (ap (λ (x : ℕ). 2 ^ x) a ∙ pow-add 2 1 (e / 2 + e / 2) ∙ ap (λ (x : ℕ). 2 * x) (pow-add 2 (e / 2) (e / 2))) ∙ two m (2 ^ (e / 2) * 2 ^ (e / 2))
    go (suc (suc r)) z = absurd (omega arith)

twice : (m r : ℕ) → r < 2 → m ≤ m * (1 + r) × m * (1 + r) ≤ 2 * m
twice m zero h = (omega arith, omega arith)
twice m (suc zero) h = (omega arith, omega arith)
twice m (suc (suc r)) h = absurd (omega arith)

pub doubled : (m e : ℕ) → m * (1 + e % 2) ≤ 2 * m
doubled m e = (twice m (e % 2) (omega arith)).1

pub evened : (b m e : ℕ) → Scaled (units_of b * 2 ^ 1074) m e → Evened b (m * (1 + e % 2)) (e / 2)
evened b m e s =
    let lo = s.low in
    let hi = s.high in
    let le = s.least in
    let mo = s.most in
    let t = twice m (e % 2) (omega arith) in
    record {
      low = le_trans lo t.0;
      high = le_trans (top m (m * (1 + e % 2)) hi t.1) (lit≤ tt);
      least = half_low e le;
      most = half_high e mo;
      value = s.value ∙ halved m e;
    }
  where
    top : (m x : ℕ) → m < 2 ^ 53 → x ≤ 2 * m → x + 2 ≤ 2 ^ 54
    top m x h k = omega arith

    half_low : (e : ℕ) → 1022 ≤ e → 511 ≤ e / 2
    half_low e h = omega arith

    half_high : (e : ℕ) → e < 3200 → e / 2 < 1600
    half_high e h = omega arith

pub moved : {n m e m' e' : ℕ} → Scaled n m e → m' ≡ m → e' ≡ e → Scaled n m' e'
moved {n} {m} {e} {m'} {e'} s p q = subst (λ (x : ℕ). Scaled n m' x) (sym q) (subst (λ (x : ℕ). Scaled n x e) (sym p) s)
