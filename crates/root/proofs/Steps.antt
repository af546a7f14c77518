-- The arithmetic of `narrow_root` and `wide_root`.
use mathlib.Core.Path.{◌≡◌, subst}
use Prim.Native.Nat.{ℕ, zero, suc, ◌+◌, ◌-◌, ◌*◌, ◌/◌, ◌%◌, ◌^◌, ◌≤◌, ◌<◌}
use native.Mathlib.Nat.{mul-le-mul, mul-le-mul_left, mul-le-mul_right, lt_of_mul-lt-mul_right, lt_of_lt_of_le, le_of_suc-le-suc, lt_of_not-le, not-le_of_lt, div-add-mod', mod-lt, div-lt_iff_lt-mul}
use native.Mathlib.Omega.{arith}
use Rattle.root.specs.Parts.{Floor}

-- ---- between two squares
pub root_le : (n r a : ℕ) → n < (r + 1) * (r + 1) → a * a ≤ n → a ≤ r
root_le n r a h l = le_of_suc-le-suc (lt_of_not-le (λ (g : suc r ≤ a). not-le_of_lt (lt_of_lt_of_le h (two (r + 1) a (omega arith))) l))
  where
    two : (x y : ℕ) → x ≤ y → x * x ≤ y * y
    two x y g = mul-le-mul g g

pub root_lt : (n r a : ℕ) → r * r ≤ n → n < a * a → r < a
root_lt n r a h l = lt_of_not-le (λ (g : a ≤ r). not-le_of_lt (lt_of_lt_of_le l (mul-le-mul g g)) h)

-- ---- Newton's step, from any guess above 0, gives the root at least
squares : (a b : ℕ) → a * b + a * b ≤ b * b + a * a
squares zero b = omega arith
squares (suc a) zero = omega arith
squares (suc a) (suc b) = let h = squares a b in omega arith

above : (n r q m : ℕ) → n < suc q * r → r + q < m + m → n < m * m
above n r q m a b =
    let h : suc (r + q) * r ≤ (m + m) * r = mul-le-mul_right r b in
    let g = squares m r in
    omega arith

newton_above : (n r : ℕ) → 0 < r → n < ((r + n / r) / 2 + 1) * ((r + n / r) / 2 + 1)
newton_above n r h =
    let e = div-add-mod' n r in
    let l : n % r < r = mod-lt n h in
    above n r (n / r) ((r + n / r) / 2 + 1) (omega arith) (omega arith)

pub square : (r : ℕ) → r ≤ 2 ^ 29 → r * r ≤ 2 ^ 29 * 2 ^ 29
square r h = mul-le-mul h h

pub sq_pos : (n r : ℕ) → n < r * r → 0 < r
sq_pos n zero h = absurd (omega arith)
sq_pos n (suc k) h = omega arith

pub step_down : (n r : ℕ) → n < r * r → n < (r - 1 + 1) * (r - 1 + 1)
step_down n r h = let p = sq_pos n r h in let e : r ≡ r - 1 + 1 = omega arith in subst (λ (z : ℕ). n < z * z) e h

-- ---- `narrow_root`
pub poly : (t : ℕ) → t < 2 ^ 16 → t * (17226 - t * 323 / 4096) ≤ 2 ^ 16 * 17226
poly t h = let a : t ≤ 2 ^ 16 = omega arith in let b : 17226 - t * 323 / 4096 ≤ 17226 = omega arith in mul-le-mul a b

-- the guess, and the one after it
abbrev pub guess : ℕ → ℕ
guess m = (4250 + m / 274877906944 * (17226 - m / 274877906944 * 323 / 4096) / 65536) * 8192

abbrev pub next : ℕ → ℕ
next m = (guess m + m / guess m) / 2

pub record Guessed (m g k : ℕ) : Type 0 where
  pub g_low : 2 ^ 25 ≤ g
  pub g_high : g < 2 ^ 29
  pub g_div : m / g < 2 ^ 29
  pub k_low : 2 ^ 26 ≤ k
  pub k_high : k < 2 ^ 29
  pub k_div : m / k < 2 ^ 28
  pub reaches : m < ((k + m / k) / 2 + 1) * ((k + m / k) / 2 + 1)

pub guessed : (m : ℕ) → 2 ^ 52 ≤ m → m < 2 ^ 54 → Guessed m (guess m) (next m)
guessed m a b =
    let p = poly (m / 274877906944) (omega arith) in
    let gl : 2 ^ 25 ≤ guess m = omega arith in
    let gh : guess m < 2 ^ 29 = omega arith in
    from (guess m) gl gh
  where
    from : (g : ℕ) → 2 ^ 25 ≤ g → g < 2 ^ 29 → Guessed m g ((g + m / g) / 2)
    from g gl gh =
        let gp : 0 < g = omega arith in
        let gd : m / g < 2 ^ 29 = (div-lt_iff_lt-mul gp).1 (below m (2 ^ 29) (2 ^ 25) g b gl) in
        let kl : 2 ^ 26 ≤ (g + m / g) / 2 = root_le m ((g + m / g) / 2) (2 ^ 26) (newton_above m g gp) a in
        let kp : 0 < (g + m / g) / 2 = omega arith in
        record {
          g_low = gl;
          g_high = gh;
          g_div = gd;
          k_low = kl;
          k_high = omega arith;
          k_div = (div-lt_iff_lt-mul kp).1 (below m (2 ^ 28) (2 ^ 26) ((g + m / g) / 2) b kl);
          reaches = newton_above m ((g + m / g) / 2) kp;
        }
      where
        below : (m c l g : ℕ) → m < c * l → l ≤ g → m < c * g
        below m c l g h k = lt_of_lt_of_le h (mul-le-mul_left c k)

-- ---- `wide_root`: q and u are the quotient and the remainder of (m - a * a) * 2 ^ 27 by 2 a
pub record Divided (m a q u : ℕ) : Type 0 where
  pub a_low : 2 ^ 26 ≤ a
  pub a_high : a < 2 ^ 27
  pub left : m ≤ a * a + 2 * a
  pub q_le : q ≤ 2 ^ 27
  pub square : q * q ≤ 2 ^ 54
  pub u_lt : u < 2 * a
  pub is : (m - a * a) * 134217728 ≡ q * (2 * a) + u
  pub whole : (a * 134217728 + q) * (a * 134217728 + q) + u * 134217728 ≡ m * 2 ^ 54 + q * q

divided_at : (m a q u : ℕ) → 2 ^ 52 ≤ m → m < 2 ^ 54 → Floor m a → (m - a * a) * 134217728 ≡ q * (2 * a) + u → u < 2 * a → Divided m a q u
divided_at m a q u h l f e v =
    let lo = f.low in
    let hi = f.high in
    let al : 2 ^ 26 ≤ a = root_le m a (2 ^ 26) hi h in
    let ah : a < 2 ^ 27 = root_lt m a (2 ^ 27) lo l in
    let le : m ≤ a * a + 2 * a = omega arith in
    let q1 : q * (2 * a) < (2 ^ 27 + 1) * (2 * a) = omega arith in
    let q2 : q < 2 ^ 27 + 1 = lt_of_mul-lt-mul_right (2 * a) q1 in
    let q3 : q ≤ 2 ^ 27 = omega arith in
    let r : a * a + (m - a * a) ≡ m = omega arith in
    record {
      a_low = al;
      a_high = ah;
      left = le;
      q_le = q3;
      square = mul-le-mul q3 q3;
      u_lt = v;
      is = e;
      whole = sum m a q u (m - a * a) r e;
    }
  where
    sum : (m a q u t : ℕ) → a * a + t ≡ m → t * 134217728 ≡ q * (2 * a) + u → (a * 134217728 + q) * (a * 134217728 + q) + u * 134217728 ≡ m * 2 ^ 54 + q * q
    sum m a q u t r e = omega arith

pub divided : (m a : ℕ) → 2 ^ 52 ≤ m → m < 2 ^ 54 → Floor m a
    → Divided m a ((m - a * a) * 134217728 / (2 * a)) ((m - a * a) * 134217728 - (m - a * a) * 134217728 / (2 * a) * (2 * a))
divided m a h l f =
    let al : 2 ^ 26 ≤ a = root_le m a (2 ^ 26) f.high h in
    let z = rest ((m - a * a) * 134217728) (2 * a) (omega arith) in
    divided_at m a ((m - a * a) * 134217728 / (2 * a)) ((m - a * a) * 134217728 - (m - a * a) * 134217728 / (2 * a) * (2 * a)) h l f z.0 z.1
  where
    rest : (n d : ℕ) → 0 < d → (n ≡ n / d * d + (n - n / d * d)) × (n - n / d * d < d)
    rest n d h =
        let e = div-add-mod' n d in
        let l : n % d < d = mod-lt n h in
        (omega arith, omega arith)

pub floor_stays : (m a q u : ℕ) → Divided m a q u → q * q ≤ u * 134217728 → Floor (m * 2 ^ 54) (a * 134217728 + q)
floor_stays m a q u D h = let w = D.whole in let v = D.u_lt in record { low = omega arith; high = omega arith }

pub floor_less : (m a q u : ℕ) → Divided m a q u → u * 134217728 < q * q → Floor (m * 2 ^ 54) (a * 134217728 + q - 1)
floor_less m a q u D h =
    let w = D.whole in
    let l = D.a_low in
    let s = D.square in
    let p : 0 < q = sq_pos (u * 134217728) q h in
    down (a * 134217728 + q) (m * 2 ^ 54) (omega arith) (omega arith)
  where
    at : (p n : ℕ) → suc p * suc p ≤ n + 2 * p + 1 → n < suc p * suc p → Floor n p
    at p n a b = record { low = omega arith; high = omega arith }

    down : (s n : ℕ) → s * s + 1 ≤ n + 2 * s → n < s * s → Floor n (s - 1)
    down zero n a b = absurd (omega arith)
    down (suc p) n a b = let e : p ≡ suc p - 1 = omega arith in subst (λ (x : ℕ). Floor n x) e (at p n (omega arith) b)
