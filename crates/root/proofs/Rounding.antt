-- What `root_of_units n` is, where √n lies between the half-way points beside q * 2 ^ k: those units.
use mathlib.Core.Path.{◌≡◌, sym, ap, ◌∙◌, subst}
use Prim.Native.Nat.{ℕ, suc, ◌+◌, ◌-◌, ◌*◌, ◌/◌, ◌^◌, ◌≤◌, ◌<◌}
use native.Mathlib.Nat.{mul-le-mul_right, mul-pos, mul_assoc, zero-lt-suc, le_refl, le-suc, le_trans, le_of_eq, lt_of_le_of_lt, lt_of_lt_of_le, lt_of_mul-lt-mul_right, pow-succ'}
use native.Mathlib.Omega.{arith}
use mathlib.Core.Bool.{Bool, true, false, not, cond}
use lib.Dec.{T, ltb, nltb→le}
use lib.Pow.{pow-add, pow_pos, pow_mono, shl_lt}
use lib.Ieee.{binary64, size, round}
use lib.Ieee.Digits.{size-lt, size-le}
use lib.Ieee.Fits.{round-fits}
use lib.Ieee.Nearest.{closest, closest_same, div_same}
use lib.Ieee.Order.{drop, kept}
use lib.Ieee.Scale.{grid, overflow, round_val}
use Rattle.double.specs.Doubles.{Double}
use Rattle.double.proofs.Near.{half_off}
use Rattle.double.proofs.Units.{Units}
use Rattle.root.specs.Root.{isqrt, root_of_units}
use Rattle.root.specs.Parts.{Floor, Between}
use Rattle.root.proofs.Steps.{root_le, root_lt}
use Rattle.root.proofs.Isqrt.{isqrt_floor}
use Rattle.root.proofs.Evening.{pow_lt_back}

-- (2 q - 1) / 2 < a / b < (2 q + 1) / 2, for q = p + 1
closest_is : (a b p : ℕ) → 0 < b → (2 * p + 1) * b < 2 * a → 2 * a < (2 * p + 3) * b → closest a b ≡ p + 1
closest_is a b p B l h = go (closest a b) (half_off a b B).high (half_off a b B).low
  where
    go : (c : ℕ) → 2 * (c * b) ≤ 2 * a + b → 2 * a ≤ 2 * (c * b) + b → c ≡ p + 1
    go c u v =
        let x : c * b < (p + 2) * b = omega arith in
        let y : p * b < c * b = omega arith in
        let s : c < p + 2 = lt_of_mul-lt-mul_right b x in
        let t : p < c = lt_of_mul-lt-mul_right b y in
        omega arith

-- ---- n has 53 + k digits
digits_53 : (n k : ℕ) → 2 ^ 52 * 2 ^ k ≤ n → n < 2 ^ 53 * 2 ^ k → size n - 53 ≡ k
digits_53 n k lo hi =
    gone (size n) k (size-le n (53 + k) (lt_of_lt_of_le hi (le_of_eq (sym (pow-add 2 53 k)))))
    (pow_lt_back (52 + k) (size n) (lt_of_le_of_lt (le_trans (le_of_eq (pow-add 2 52 k)) lo) (size-lt n)))
  where
    gone : (z k : ℕ) → z ≤ 53 + k → 52 + k < z → z - 53 ≡ k
    gone z k a b = omega arith

-- ---- the whole part s of √n, and the half that stands for the rest
abbrev rest : ℕ → ℕ → ℕ
rest s n = cond (ltb (s * s) n) 1 0

over : (s n a : ℕ) → Floor n s → a * a < n → 2 * a < 2 * s + rest s n
over s n a f h = go (ltb (s * s) n) (nltb→le (s * s) n)
  where
    le : a ≤ s
    le = root_le n s a f.high (le_trans (le-suc (a * a)) h)

    go : (b : Bool) → (T (not b) → n ≤ s * s) → 2 * a < 2 * s + cond b 1 0
    go true g = let l = le in omega arith
    go false g = let l : a < s = root_lt (a * a) a s (le_refl (a * a)) (lt_of_lt_of_le h (g tt)) in omega arith

under : (s n a : ℕ) → Floor n s → n < a * a → 2 * s + rest s n < 2 * a
under s n a f h = go (ltb (s * s) n)
  where
    go : (b : Bool) → 2 * s + cond b 1 0 < 2 * a
    go true = let l = root_lt n s a f.low h in omega arith
    go false = let l = root_lt n s a f.low h in omega arith

halve : (s : ℕ) (b : Bool) → (2 * s + cond b 1 0) / 2 ≡ s
halve s true = omega arith
halve s false = omega arith

-- ---- q * 2 ^ k units
shrink : (c n P : ℕ) → c * (2 * P) * (c * (2 * P)) < 4 * n → c * P * (c * P) < n
shrink c n P h = omega arith

shrink' : (c n P : ℕ) → 4 * n < c * (2 * P) * (c * (2 * P)) → n < c * P * (c * P)
shrink' c n P h = omega arith

twice : (c H : ℕ) → 2 * (c * H) ≡ c * (2 * H)
twice c H = omega arith

module _ (n q k : ℕ) (B : Between n q k) where
  -- what is rounded, in halves of a unit
  abbrev halves : ℕ
  halves = 2 * isqrt n + rest (isqrt n) n

  half : 2 ^ k ≡ 2 * 2 ^ (k - 1)
  half = ap (λ (x : ℕ). 2 ^ x) (one k B.least) ∙ pow-succ' 2 (k - 1)
    where
      one : (k : ℕ) → 1 ≤ k → k ≡ suc (k - 1)
      one k h = omega arith

  more : (2 * q - 1) * 2 ^ k < halves
  more =
      let c = 2 * q - 1 in
      let H = 2 ^ (k - 1) in
      let b = subst (λ (P : ℕ). c * P * (c * P) < 4 * n) half B.below in
      subst (λ (x : ℕ). x < halves) (twice c H ∙ ap (λ (P : ℕ). c * P) (sym half)) (over (isqrt n) n (c * H) (isqrt_floor n) (shrink c n H b))

  less : halves < (2 * q + 1) * 2 ^ k
  less =
      let c = 2 * q + 1 in
      let H = 2 ^ (k - 1) in
      let b = subst (λ (P : ℕ). 4 * n < c * P * (c * P)) half B.above in
      subst (λ (x : ℕ). halves < x) (twice c H ∙ ap (λ (P : ℕ). c * P) (sym half)) (under (isqrt n) n (c * H) (isqrt_floor n) (shrink' c n H b))

  drop_is : drop 53 (halves * 2 ^ 1074) (2 ^ 1075) ≡ k
  drop_is =
      ap (λ (x : ℕ). size x - 53) (div_same (halves * 2 ^ 1074) (2 ^ 1075) halves 2 (pow_pos 1075) (zero-lt-suc 1) (mul_assoc halves (2 ^ 1074) 2) ∙ halve (isqrt n) (ltb (isqrt n * isqrt n) n))
      ∙ digits_53 (isqrt n) k (root_le n (isqrt n) (2 ^ 52 * 2 ^ k) (isqrt_floor n).high B.edge) (few (isqrt n) (rest (isqrt n) n) q (2 ^ k) B.high less)
    where
      few : (s t q P : ℕ) → q < 2 ^ 53 → 2 * s + t < (2 * q + 1) * P → s < 2 ^ 53 * P
      few s t q P h l = let g : suc q * P ≤ 2 ^ 53 * P = mul-le-mul_right P h in omega arith

  closest_q : closest halves (2 * 2 ^ k) ≡ q
  closest_q = go halves (2 ^ k) (pow_pos k) more less
    where
      low : (q a P : ℕ) → 2 ^ 52 ≤ q → (2 * q - 1) * P < a → (2 * (q - 1) + 1) * (2 * P) < 2 * a
      low q a P h l = let e : 2 * q - 1 ≡ 2 * (q - 1) + 1 = omega arith in let g : (2 * (q - 1) + 1) * P < a = subst (λ (c : ℕ). c * P < a) e l in omega arith

      high : (q a P : ℕ) → 2 ^ 52 ≤ q → a < (2 * q + 1) * P → 2 * a < (2 * (q - 1) + 3) * (2 * P)
      high q a P h l = let e : 2 * q + 1 ≡ 2 * (q - 1) + 3 = omega arith in let g : a < (2 * (q - 1) + 3) * P = subst (λ (c : ℕ). a < c * P) e l in omega arith

      same : (q : ℕ) → 2 ^ 52 ≤ q → q - 1 + 1 ≡ q
      same q h = omega arith

      go : (a P : ℕ) → 0 < P → (2 * q - 1) * P < a → a < (2 * q + 1) * P → closest a (2 * P) ≡ q
      go a P p l h = closest_is a (2 * P) (q - 1) (mul-pos (zero-lt-suc 1) p) (low q a P B.low l) (high q a P B.low h) ∙ same q B.low

  grid_is : grid binary64 halves (2 ^ 1075) ≡ q * 2 ^ k
  grid_is = ap (λ (z : ℕ). z * 2 ^ drop 53 (halves * 2 ^ 1074) (2 ^ 1075)) kept_is ∙ ap (λ (z : ℕ). q * 2 ^ z) drop_is
    where
      scale : (a L P : ℕ) → a * L * (2 * P) ≡ a * (2 * L * P)
      scale a L P = omega arith

      kept_is : kept 53 (halves * 2 ^ 1074) (2 ^ 1075) ≡ q
      kept_is =
          ap (λ (z : ℕ). closest (halves * 2 ^ 1074) (2 ^ 1075 * 2 ^ z)) drop_is
          ∙ closest_same (halves * 2 ^ 1074) (2 ^ 1075 * 2 ^ k) halves (2 * 2 ^ k) (mul-pos (pow_pos 1075) (pow_pos k)) (mul-pos (zero-lt-suc 1) (pow_pos k)) (scale halves (2 ^ 1074) (2 ^ k))
          ∙ closest_q

  finite : q * 2 ^ k < overflow binary64
  finite = lt_of_lt_of_le (shl_lt 53 k B.high) (pow_mono {i = 53 + k} {j = 2098} (room k B.most))
    where
      room : (k : ℕ) → k < 1600 → 53 + k ≤ 2098
      room k h = omega arith

  pub root_units : Units (root_of_units n) (q * 2 ^ k)
  unfolding root_of_units
  root_units =
      subst (λ (x : ℕ). Units (round binary64 false halves (2 ^ 1075)) x) grid_is
      (round_val binary64 halves (2 ^ 1075) (subst (λ (x : ℕ). x < overflow binary64) (sym grid_is) finite))

  pub root_digits_lem : size (q * 2 ^ k) - 53 ≡ k
  root_digits_lem = digits_53 (q * 2 ^ k) k (mul-le-mul_right (2 ^ k) B.low) (fewer B.high)
    where
      fewer : q < 2 ^ 53 → q * 2 ^ k < 2 ^ 53 * 2 ^ k
      fewer h = lt_of_lt_of_le (shl_lt 53 k h) (le_of_eq (pow-add 2 53 k))

pub root_double : (n : ℕ) → Double (root_of_units n)
unfolding root_of_units
root_double n = round-fits binary64 false (2 * isqrt n + rest (isqrt n) n) (2 ^ 1075)
