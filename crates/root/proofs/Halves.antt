-- From the whole root of m * 2 ^ 54 to the 53 digits that are kept: √n lies between the half-way points beside them.
use mathlib.Core.Path.{◌≡◌, refl, sym, ap, ◌∙◌, subst}
use Prim.Native.Nat.{ℕ, zero, suc, ◌+◌, ◌-◌, ◌*◌, ◌/◌, ◌%◌, ◌^◌, ◌≤◌, ◌<◌}
use native.Mathlib.Nat.{mul-le-mul, mul-le-mul_right}
use native.Mathlib.Omega.{arith}
use lib.Pow.{pow-add, pow_pos}
use Rattle.root.specs.Parts.{Floor, Evened, Between, Rounded, units_of}
use Rattle.root.proofs.Steps.{root_le, root_lt}

-- the square of an odd number is no even number
odd_square : (p c : ℕ) → (2 * p + 1) * (2 * p + 1) ≤ 2 * c → (2 * p + 1) * (2 * p + 1) < 2 * c
odd_square p c h = omega arith

lt_square : (a s c : ℕ) → a < s → s * s ≤ c → a * a < c
lt_square a s c l h = let g : suc a * suc a ≤ s * s = mul-le-mul l l in omega arith

-- s is 2 q or 2 q - 1, for q = p + 1
halves : (s c p : ℕ) → s * s ≤ 2 * c → 2 * c < (s + 1) * (s + 1) → (s + 1) / 2 ≡ p + 1 → ((2 * p + 1) * (2 * p + 1) < 2 * c) × (2 * c < (2 * p + 3) * (2 * p + 3))
halves s c p l h e = go (s % 2) refl
  where
    go : (r : ℕ) → s % 2 ≡ r → ((2 * p + 1) * (2 * p + 1) < 2 * c) × (2 * c < (2 * p + 3) * (2 * p + 3))
    go zero z =
        let f : s ≡ 2 * p + 2 = omega arith in
        let k : 2 * c < (2 * p + 2 + 1) * (2 * p + 2 + 1) = subst (λ (x : ℕ). 2 * c < (x + 1) * (x + 1)) f h in
        (lt_square (2 * p + 1) s (2 * c) (omega arith) l, omega arith)
    go (suc r) z =
        let f : s ≡ 2 * p + 1 = omega arith in
        let k : 2 * c < (2 * p + 1 + 1) * (2 * p + 1 + 1) = subst (λ (x : ℕ). 2 * c < (x + 1) * (x + 1)) f h in
        (odd_square p c (subst (λ (x : ℕ). x * x ≤ 2 * c) f l), omega arith)

scale_lt : (a c P : ℕ) → 0 < P → a * a < c → a * P * (a * P) < c * (P * P)
scale_lt a c P p h = let g : suc (a * a) * (P * P) ≤ c * (P * P) = mul-le-mul_right (P * P) h in let z : 0 < P * P = mul-le-mul p p in omega arith

scale_gt : (a c P : ℕ) → 0 < P → c < a * a → c * (P * P) < a * P * (a * P)
scale_gt a c P p h = let g : suc c * (P * P) ≤ a * a * (P * P) = mul-le-mul_right (P * P) h in let z : 0 < P * P = mul-le-mul p p in omega arith

-- n is m * 2 ^ 52 * P * P
rounded_at : (n m s h p : ℕ) → 2 ^ 52 ≤ m → m + 2 ≤ 2 ^ 54 → 511 ≤ h → h < 1600 → n ≡ m * (2 ^ h * 2 ^ h) → Floor (m * 2 ^ 54) s → (s + 1) / 2 ≡ p + 1
    → Rounded n ((h - 26) * 2 ^ 52 + (s + 1) / 2)
rounded_at n m s h p lo hi le mo e f q =
    let k = h - 26 in
    let P = 2 ^ k in
    let pw : 2 ^ h ≡ P * 2 ^ 26 = ap (λ (x : ℕ). 2 ^ x) (back h le) ∙ pow-add 2 k 26 in
    let four : 4 * n ≡ m * 2 ^ 54 * (P * P) = four_is n m P (e ∙ ap (λ (x : ℕ). m * (x * x)) pw) in
    let s_ge : 2 ^ 53 ≤ s = root_le (m * 2 ^ 54) s (2 ^ 53) f.high (omega arith) in
    let s_lt : s < 2 ^ 54 - 1 = root_lt (m * 2 ^ 54) s (2 ^ 54 - 1) f.low (omega arith) in
    let hv = halves s (m * 2 ^ 53) p (even_le s m f.low) (even_lt s m f.high) q in
    let tw : 2 * (m * 2 ^ 53) ≡ m * 2 ^ 54 = omega arith in
    let a_is : 2 * p + 1 ≡ 2 * ((s + 1) / 2) - 1 = omega arith in
    let b_is : 2 * p + 3 ≡ 2 * ((s + 1) / 2) + 1 = omega arith in
    let between : Between n ((s + 1) / 2) k =
    record {
      low = omega arith;
      high = omega arith;
      least = omega arith;
      most = omega arith;
      below = subst (λ (a : ℕ). a * P * (a * P) < 4 * n) a_is (subst (λ (c : ℕ). (2 * p + 1) * P * ((2 * p + 1) * P) < c) (ap (λ (c : ℕ). c * (P * P)) tw ∙ sym four) (scale_lt (2 * p + 1) (2 * (m * 2 ^ 53)) P (pow_pos k) hv.0));
      above = subst (λ (a : ℕ). 4 * n < a * P * (a * P)) b_is (subst (λ (c : ℕ). c < (2 * p + 3) * P * ((2 * p + 3) * P)) (ap (λ (c : ℕ). c * (P * P)) tw ∙ sym four) (scale_gt (2 * p + 3) (2 * (m * 2 ^ 53)) P (pow_pos k) hv.1));
      edge = edge_of n m P lo four;
    } in
    record { q = (s + 1) / 2; k = k; is = refl; between = between }
  where
    back : (h : ℕ) → 511 ≤ h → h ≡ h - 26 + 26
    back h l = omega arith

    four_is : (n m P : ℕ) → n ≡ m * (P * 2 ^ 26 * (P * 2 ^ 26)) → 4 * n ≡ m * 2 ^ 54 * (P * P)
    four_is n m P e = omega arith

    even_le : (s m : ℕ) → s * s ≤ m * 2 ^ 54 → s * s ≤ 2 * (m * 2 ^ 53)
    even_le s m h = omega arith

    even_lt : (s m : ℕ) → m * 2 ^ 54 < (s + 1) * (s + 1) → 2 * (m * 2 ^ 53) < (s + 1) * (s + 1)
    even_lt s m h = omega arith

    edge_of : (n m P : ℕ) → 2 ^ 52 ≤ m → 4 * n ≡ m * 2 ^ 54 * (P * P) → 2 ^ 52 * P * (2 ^ 52 * P) ≤ n
    edge_of n m P l e = let g : 2 ^ 52 * (P * P) ≤ m * (P * P) = mul-le-mul_right (P * P) l in omega arith

pub rounded : (b m h s : ℕ) → Evened b m h → Floor (m * 2 ^ 54) s → Rounded (units_of b * 2 ^ 1074) ((h - 26) * 2 ^ 52 + (s + 1) / 2)
rounded b m h s v f =
    rounded_at (units_of b * 2 ^ 1074) m s h ((s + 1) / 2 - 1) v.low v.high v.least v.most v.value f (go s (root_le (m * 2 ^ 54) s 1 f.high (pos m v.low)))
  where
    go : (s : ℕ) → 1 ≤ s → (s + 1) / 2 ≡ (s + 1) / 2 - 1 + 1
    go s h = omega arith

    pos : (m : ℕ) → 2 ^ 52 ≤ m → 1 * 1 ≤ m * 2 ^ 54
    pos m h = omega arith

pub root_small : (m s : ℕ) → m < 2 ^ 54 → Floor (m * 2 ^ 54) s → s < 2 ^ 54
root_small m s h f = root_lt (m * 2 ^ 54) s (2 ^ 54) f.low (omega arith)
