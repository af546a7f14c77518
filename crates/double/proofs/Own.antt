-- A double is a whole number of units of 2 ^ -1074, and it is what its own fraction is rounded to: m * 2 ^ e, over the units, is held whole, and
-- what is held is written in one way.
use mathlib.Core.Path.{◌≡◌, refl, sym, ap, ◌∙◌, subst}
use Prim.Native.Nat.{ℕ, zero, suc, ◌+◌, ◌-◌, ◌*◌, ◌/◌, ◌%◌, ◌^◌, ◌≤◌, ◌<◌}
use native.Mathlib.Nat.{lt_of_lt_of_le, lt_of_not-le, not-le_of_lt, mul-one, mul_assoc, mul_left_comm, mul-pos, zero-mul, zero-lt-suc, mul-div_cancel, pow-succ'}
use native.Mathlib.Omega.{arith}
use mathlib.Core.Bool.{Bool, true, false, ◌&&◌}
use lib.Dec.{eqb, ltb, leb, eqb→eq, ltb→lt, leb→le, lit<}
use lib.IntN.{ℤ, pos, negsuc}
use lib.Pow.{pow-add, pow-lt, pow_mono, shl_lt}
use lib.Ieee.{Float, nan, inf, fin, binary64, up, down, round, fits}
use lib.Ieee.Exact.{HasValue, round_exact}
use lib.Ieee.Fits.{and_l, and_r, up_pos, down_pos, round-fits}
use lib.Ieee.Scale.{round_same}
use Rattle.double.specs.Doubles.{Double}
use Rattle.double.specs.Units.{in_units}

-- ---- m * 2 ^ e in units of 2 ^ -L: 2 ^ e is 2 ^ lifted L e of them
abbrev lifted : ℕ → ℤ → ℕ
lifted L (pos k) = k + L
lifted L (negsuc k) = L - suc k

pow_le : (i j : ℕ) → 2 ^ i ≤ 2 ^ j → i ≤ j
pow_le i j h = let g : i < suc j = lt_of_not-le (λ (l : suc j ≤ i). not-le_of_lt (pow-lt l) h) in omega (arith, g)

-- below 2 ^ E as a number, so below 2 ^ (E + L) in these units
bounded : (L E m : ℕ) (e : ℤ) → 53 ≤ E → m < 2 ^ 53 → m * up e < 2 ^ E * down e → m * 2 ^ lifted L e < 2 ^ (E + L)
bounded L E m (pos k) w l h = subst (λ (z : ℕ). z < 2 ^ (E + L)) (mul_assoc m (2 ^ k) (2 ^ L) ∙ ap (λ (z : ℕ). m * z) (sym (pow-add 2 k L))) (shl_lt E L (omega (arith, h)))
bounded L E m (negsuc k) w l h = lt_of_lt_of_le (shl_lt 53 (L - suc k) l) (pow_mono (omega arith))

-- the fraction, over the units
same : (L m : ℕ) (e : ℤ) → down e ≤ 2 ^ L → m * up e * 2 ^ L ≡ m * 2 ^ lifted L e * down e
same L m (pos k) d = mul_assoc m (2 ^ k) (2 ^ L) ∙ ap (λ (z : ℕ). m * z) (sym (pow-add 2 k L)) ∙ sym (mul-one (m * 2 ^ (k + L)))
same L m (negsuc k) d =
    let s : L - suc k + suc k ≡ L = omega (arith, pow_le (suc k) L d) in
    ap (λ (z : ℕ). z * 2 ^ L) (mul-one m)
    ∙ ap (λ (z : ℕ). m * 2 ^ z) (sym s)
    ∙ ap (λ (z : ℕ). m * z) (pow-add 2 (L - suc k) (suc k))
    ∙ sym (mul_assoc m (2 ^ (L - suc k)) (2 ^ suc k))

-- ---- what a double other than 0 is: odd, of 53 digits, no unit below 2 ^ -1074, less than 2 ^ 1024
record Held (m : ℕ) (e : ℤ) : Type 0 where
  pub odd : m % 2 ≡ 1
  pub small : m < 2 ^ 53
  pub deep : down e ≤ 2 ^ 1074
  pub below : m * up e < 2 ^ 1024 * down e

held : (s : Bool) (m : ℕ) (e : ℤ) → Double (fin s (suc m) e) → Held (suc m) e
unfolding fits
held s m e f =
    let a = and_l (eqb (suc m % 2) 1 && ltb (suc m) (2 ^ 53) && leb (down e) (2 ^ 1074)) (ltb (suc m * up e) (2 ^ 1024 * down e)) f in
    let b = and_l (eqb (suc m % 2) 1 && ltb (suc m) (2 ^ 53)) (leb (down e) (2 ^ 1074)) a in
    record {
      odd = eqb→eq (suc m % 2) 1 (and_l (eqb (suc m % 2) 1) (ltb (suc m) (2 ^ 53)) b);
      small = ltb→lt (suc m) (2 ^ 53) (and_r (eqb (suc m % 2) 1) (ltb (suc m) (2 ^ 53)) b);
      deep = leb→le (down e) (2 ^ 1074) (and_r (eqb (suc m % 2) 1 && ltb (suc m) (2 ^ 53)) (leb (down e) (2 ^ 1074)) a);
      below = ltb→lt (suc m * up e) (2 ^ 1024 * down e) (and_r (eqb (suc m % 2) 1 && ltb (suc m) (2 ^ 53) && leb (down e) (2 ^ 1074)) (ltb (suc m * up e) (2 ^ 1024 * down e)) f);
    }

-- ---- in units
pub record Counted (m : ℕ) (e : ℤ) : Type 0 where
  pub k : ℕ
  pub digits : m < 2 ^ 53
  pub is : in_units m e ≡ m * 2 ^ k
  pub few : in_units m e < 2 ^ 2098
  pub exact : m * up e * 2 ^ 1074 ≡ in_units m e * down e

pub counted : (s : Bool) (m : ℕ) (e : ℤ) → Double (fin s m e) → Counted m e
unfolding in_units
counted s zero e f =
    let none : 0 * up e * 2 ^ 1074 ≡ 0 * down e = ap (λ (z : ℕ). z * 2 ^ 1074) (zero-mul (up e)) ∙ zero-mul (2 ^ 1074) ∙ sym (zero-mul (down e)) in
    let is : 0 * up e * 2 ^ 1074 / down e ≡ 0 = ap (λ (z : ℕ). z / down e) none ∙ mul-div_cancel 0 (down_pos e) in
    record {
      k = 0;
      digits = lit< tt;
      is = is;
      few = subst (λ (z : ℕ). z < 2 ^ 2098) (sym is) (lit< tt);
      exact = none ∙ ap (λ (z : ℕ). z * down e) (sym is);
    }
counted s (suc m) e f =
    let h = held s m e f in
    let k = lifted 1074 e in
    let exact : suc m * up e * 2 ^ 1074 ≡ suc m * 2 ^ k * down e = same 1074 (suc m) e h.deep in
    let is : suc m * up e * 2 ^ 1074 / down e ≡ suc m * 2 ^ k = ap (λ (z : ℕ). z / down e) exact ∙ mul-div_cancel (suc m * 2 ^ k) (down_pos e) in
    record {
      k = k;
      digits = h.small;
      is = is;
      few = subst (λ (z : ℕ). z < 2 ^ 2098) (sym is) (bounded 1074 1024 (suc m) e (omega arith) h.small h.below);
      exact = exact ∙ ap (λ (z : ℕ). z * down e) (sym is);
    }

pub units_exact : (s : Bool) (m : ℕ) (e : ℤ) → Double (fin s m e) → m * up e * 2 ^ 1074 ≡ in_units m e * down e
units_exact s m e f = (counted s m e f).exact

-- ---- it is written in one way
twice : (m a : ℕ) → m * 2 ^ suc a ≡ 2 * (m * 2 ^ a)
twice m a = ap (λ (z : ℕ). m * z) (pow-succ' 2 a) ∙ mul_left_comm m 2 (2 ^ a)

odd_parts : (m n a b : ℕ) → m % 2 ≡ 1 → n % 2 ≡ 1 → m * 2 ^ a ≡ n * 2 ^ b → (m ≡ n) × (a ≡ b)
odd_parts m n zero zero o p h = (omega (arith, h), refl)
odd_parts m n zero (suc b) o p h = absurd (omega (arith, twice n b, h))
odd_parts m n (suc a) zero o p h = absurd (omega (arith, twice m a, h))
odd_parts m n (suc a) (suc b) o p h =
    let r = odd_parts m n a b o p (omega (arith, twice m a, twice n b, h)) in
    (r.0, ap suc r.1)

-- two odd numbers of one size, each times a power of 2
one_way : (m n : ℕ) (d e : ℤ) → m % 2 ≡ 1 → n % 2 ≡ 1 → m * up d * down e ≡ n * up e * down d → (m ≡ n) × (d ≡ e)
one_way m n (pos i) (pos j) o p h =
    let r = odd_parts m n i j o p (omega (arith, h)) in (r.0, ap pos r.1)
one_way m n (pos i) (negsuc j) o p h =
    let r = odd_parts m n (i + suc j) 0 o p (ap (λ (z : ℕ). m * z) (pow-add 2 i (suc j)) ∙ sym (mul_assoc m (2 ^ i) (2 ^ suc j)) ∙ h ∙ mul-one (n * 1)) in
    absurd (omega (arith, r.1))
one_way m n (negsuc i) (pos j) o p h =
    let r = odd_parts m n 0 (j + suc i) o p (sym (mul-one (m * 1)) ∙ h ∙ mul_assoc n (2 ^ j) (2 ^ suc i) ∙ ap (λ (z : ℕ). n * z) (sym (pow-add 2 j (suc i)))) in
    absurd (omega (arith, r.1))
one_way m n (negsuc i) (negsuc j) o p h =
    let r = odd_parts m n (suc j) (suc i) o p (sym (ap (λ (z : ℕ). z * 2 ^ suc j) (mul-one m)) ∙ h ∙ ap (λ (z : ℕ). z * 2 ^ suc i) (mul-one n)) in
    let k : i ≡ j = omega (arith, r.1) in
    (r.0, ap negsuc k)

-- a double with the value of another is that one
alike : (x : Float) (s : Bool) (m : ℕ) (e : ℤ) → Double x → Held (suc m) e → HasValue x s (suc m * up e) (down e) → x ≡ fin s (suc m) e
alike nan s m e f h v = absurd v
alike (inf t) s m e f h v = absurd v
alike (fin t zero d) s m e f h v = absurd (omega (arith, v.1, mul-pos (mul-pos (zero-lt-suc m) (up_pos e)) (down_pos d)))
alike (fin t (suc n) d) s m e f h v =
    let r = one_way (suc n) (suc m) d e (held t n d f).odd h.odd v.1 in
    λ i. fin (v.0 i) (r.0 i) (r.1 i)

-- ---- 0 has the exponent 0
pub zero_round : (s : Bool) (c : ℕ) → 0 < c → round binary64 s 0 c ≡ fin s 0 (pos 0)
unfolding round
zero_round s c h = round_same binary64 s 0 c 0 1 h (omega arith) (omega arith) ∙ go s
  where
    go : (s : Bool) → round binary64 s 0 1 ≡ fin s 0 (pos 0)
    go true = refl
    go false = refl

level : (e : ℤ) → up e * down e ≡ 1 → e ≡ pos 0
level (pos zero) h = refl
level (pos (suc k)) h = absurd (omega (arith, h, twice 1 k))
level (negsuc k) h = absurd (omega (arith, h, twice 1 k))

-- a zero that is an f64 is 0.0 or -0.0
pub zero_own : (s : Bool) (e : ℤ) → Double (fin s 0 e) → e ≡ pos 0
unfolding fits
zero_own s e f = level e (eqb→eq (up e * down e) 1 f)

pub any_sign : (s t : Bool) (m : ℕ) (e : ℤ) → Double (fin s m e) → Double (fin t m e)
unfolding fits
any_sign s t zero e f = f
any_sign s t (suc m) e f = f

pub own_round : (s : Bool) (m : ℕ) (e : ℤ) → Double (fin s m e) → round binary64 s (m * up e) (down e) ≡ fin s m e
own_round s zero e f =
    let none : 0 * up e ≡ 0 = omega arith in
    ap (λ (z : ℕ). round binary64 s z (down e)) none
    ∙ zero_round s (down e) (down_pos e)
    ∙ ap (fin s 0) (sym (zero_own s e f))
own_round s (suc m) e f =
    let h = held s m e f in
    alike (round binary64 s (suc m * up e) (down e)) s m e (round-fits binary64 s (suc m * up e) (down e)) h
    (round_exact binary64 s (suc m * up e) (down e) (suc m) (lifted 1074 e) (down_pos e)
    h.small (bounded 1074 1024 (suc m) e (omega arith) h.small h.below) (same 1074 (suc m) e h.deep))
