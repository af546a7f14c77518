-- Beside q * 2 ^ k units, for a q of 53 digits, the next doubles are 2 ^ k units away, but for those below 2 ^ 52 * 2 ^ k: half-way points to other doubles
-- are no nearer than (2 q - 1) * 2 ^ (k - 1) and (2 q + 1) * 2 ^ (k - 1).
use mathlib.Core.Path.{◌≡◌, sym, ap, ◌∙◌, subst}
use mathlib.Core.Logic.{◌⊎◌, inl, inr}
use Prim.Native.Nat.{ℕ, suc, ◌+◌, ◌-◌, ◌*◌, ◌^◌, ◌≤◌, ◌<◌}
use native.Mathlib.Nat.{add-mul, mul-le-mul_right, mul_assoc, le_trans, le_of_eq, lt_of_mul-lt-mul_right, eq-or-lt_of_le}
use native.Mathlib.Omega.{arith}
use mathlib.Core.Bool.{Bool, true, false, not}
use lib.Dec.{T, ltb, ltb→lt, nltb→le}
use lib.Pow.{pow-add, pow_pos, pow_mono}

-- p * 2 ^ j, with 53 digits in p at most, is any double
module _ (q k : ℕ) (full : 2 ^ 52 ≤ q) (p j : ℕ) (few : p < 2 ^ 53) where
  -- a multiple of 2 ^ k, or smaller than all of 2 ^ 52 * 2 ^ k
  abbrev Coarse : Type 0
  Coarse = (z : ℕ) × (p * 2 ^ j ≡ z * 2 ^ k)

  coarse : k ≤ j → Coarse
  coarse h = (p * 2 ^ (j - k), ap (λ (x : ℕ). p * x) (ap (λ (x : ℕ). 2 ^ x) (sym (join j k h)) ∙ pow-add 2 (j - k) k) ∙ sym (mul_assoc p (2 ^ (j - k)) (2 ^ k)))
    where
      join : (j k : ℕ) → k ≤ j → j - k + k ≡ j
      join j k h = omega arith

  fine : j < k → p * 2 ^ j < 2 ^ 52 * 2 ^ k
  fine h = go (2 ^ j) (2 ^ k) (pow_pos j) (le_trans (le_of_eq (sym (pow-add 2 1 j))) (pow_mono {i = 1 + j} {j = k} (more j k h)))
    where
      more : (j k : ℕ) → j < k → 1 + j ≤ k
      more j k h = omega arith

      go : (J K : ℕ) → 0 < J → 2 * J ≤ K → p * J < 2 ^ 52 * K
      go J K a b = let g : suc p * J ≤ 2 ^ 53 * J = mul-le-mul_right J few in omega arith

  abbrev R : ℕ
  R = q * 2 ^ k

  abbrev Y : ℕ
  Y = p * 2 ^ j

  pub above : R < Y → (2 * q + 1) * 2 ^ k ≤ R + Y
  above l = go (ltb j k) (ltb→lt j k) (nltb→le j k)
    where
      at : (z : ℕ) (K y : ℕ) → y ≡ z * K → q * K < y → (2 * q + 1) * K ≤ q * K + y
      at z K y e l = let m : q < z = lt_of_mul-lt-mul_right K (subst (λ (x : ℕ). q * K < x) e l) in let g : suc q * K ≤ z * K = mul-le-mul_right K m in omega arith

      no : (K y : ℕ) → 2 ^ 52 * K ≤ q * K → y < 2 ^ 52 * K → q * K < y → ⊥
      no K y a b c = omega arith

      go : (b : Bool) → (T b → j < k) → (T (not b) → k ≤ j) → (2 * q + 1) * 2 ^ k ≤ R + Y
      go true f g = absurd (no (2 ^ k) Y (mul-le-mul_right (2 ^ k) full) (fine (f tt)) l)
      go false f g = let c = coarse (g tt) in at c.0 (2 ^ k) Y c.1 l

  -- below 2 ^ 52 * 2 ^ k itself the next double is nearer than 2 ^ k
  pub below : Y < R → (R + Y ≤ (2 * q - 1) * 2 ^ k) ⊎ ((q ≡ 2 ^ 52) × (Y < 2 ^ 52 * 2 ^ k))
  below l = go (ltb j k) (ltb→lt j k) (nltb→le j k)
    where
      -- (q + (q - 1)) * K is the half-way point below
      tight : {s : ℕ} → s ≤ (q + (q - 1)) * 2 ^ k → s ≤ (2 * q - 1) * 2 ^ k
      tight {s} h = subst (λ (c : ℕ). s ≤ c * 2 ^ k) (odd_is q full) h
        where
          odd_is : (q : ℕ) → 2 ^ 52 ≤ q → q + (q - 1) ≡ 2 * q - 1
          odd_is q h = omega arith

      at : (z : ℕ) (K y : ℕ) → y ≡ z * K → y < q * K → q * K + y ≤ (q + (q - 1)) * K
      at z K y e l =
          let m : z < q = lt_of_mul-lt-mul_right K (subst (λ (x : ℕ). x < q * K) e l) in
          let m' : z ≤ q - 1 = omega arith in
          let g : z * K ≤ (q - 1) * K = mul-le-mul_right K m' in
          let d : (q + (q - 1)) * K ≡ q * K + (q - 1) * K = add-mul q (q - 1) K in
          omega arith

      small : (K y : ℕ) → 2 ^ 52 < q → y < 2 ^ 52 * K → q * K + y ≤ (q + (q - 1)) * K
      small K y m h =
          let m' : 2 ^ 52 ≤ q - 1 = omega arith in
          let g : 2 ^ 52 * K ≤ (q - 1) * K = mul-le-mul_right K m' in
          let d : (q + (q - 1)) * K ≡ q * K + (q - 1) * K = add-mul q (q - 1) K in
          omega arith

      go : (b : Bool) → (T b → j < k) → (T (not b) → k ≤ j) → (R + Y ≤ (2 * q - 1) * 2 ^ k) ⊎ ((q ≡ 2 ^ 52) × (Y < 2 ^ 52 * 2 ^ k))
      go true f g = elim (eq-or-lt_of_le full) [
        | inl e ↦ inr (sym e, fine (f tt))
        | inr m ↦ inl (tight (small (2 ^ k) Y m (fine (f tt))))
      ]
      go false f g = let c = coarse (g tt) in inl (tight (at c.0 (2 ^ k) Y c.1 l))
