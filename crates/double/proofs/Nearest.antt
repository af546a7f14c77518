-- What a fraction is rounded to is the f64 nearest to it, where it is not half-way between two: `nearest_double_lem`.
use mathlib.Core.Path.{◌≡◌, refl, sym, ap, ◌∙◌, subst}
use mathlib.Core.Logic.{◌≢◌, inl, inr}
use Prim.Native.Nat.{ℕ, suc, ◌+◌, ◌-◌, ◌*◌, ◌^◌, ◌≤◌, ◌<◌, compare, Ordering}
use native.Mathlib.Nat.{mul-pos, mul-le-mul_right, mul-lt-mul_of_pos_right, mul_right_comm, lt_of_mul-lt-mul_right, lt_of_lt_of_le, lt_of_le_of_lt, lt_irrefl}
use native.Mathlib.Omega.{arith}
use mathlib.Core.Bool.{Bool, true, false, ◌&&◌}
use lib.Dec.{T, ltb, leb, ltb→lt, leb→le}
use lib.IntN.{ℤ, pos, negsuc, nat_abs, ◌-ℤ◌, ◌*ℤ◌}
use lib.Pow.{pow_pos}
use lib.Ieee.{Float, nan, inf, fin, binary64, up, down, round}
use lib.Ieee.Exact.{HasValue, units_val}
use lib.Ieee.Fits.{and_l, and_r, down_pos, round_is, round-fits}
use lib.Ieee.Order.{drop, kept}
use lib.Ieee.Scale.{grid, overflow}
use Rattle.double.specs.Doubles.{Double}
use Rattle.double.specs.Fraction.{Fraction, ◌⊖◌, exact, Smaller}
use Rattle.double.specs.Nearest.{nearest_double, IsNumber, IsNearestTo}
use Rattle.double.proofs.Apart.{signed, apart, gap, size_apart, gap_scaled}
use Rattle.double.proofs.Near.{Cmp, cmp}
use Rattle.double.proofs.Neighbours as doubles
use Rattle.double.proofs.Own.{counted}
use Rattle.double.proofs.Units.{same_value}

-- ---- in units
-- N / c lies between the half-way points beside q * 2 ^ k: (2 q - 1) * 2 ^ k < 2 N / c < (2 q + 1) * 2 ^ k
record BetweenHalves (N c q k : ℕ) : Type 0 where
  pub some : 0 < c
  pub low : 2 ^ 52 ≤ q
  pub below : (2 * q - 1) * 2 ^ k * c < 2 * N
  pub above : 2 * N < (2 * q + 1) * 2 ^ k * c
  pub edge : 2 ^ 52 * 2 ^ k * c ≤ N

-- p * 2 ^ j, with 53 digits in p at most, is any double
module _ (N c q k : ℕ) (B : BetweenHalves N c q k) (p j : ℕ) (few : p < 2 ^ 53) where
  abbrev X : ℕ
  X = q * 2 ^ k

  abbrev Y : ℕ
  Y = p * 2 ^ j

  nearer_above : X < Y → apart (X * c) N < apart (Y * c) N
  nearer_above l = go X Y (mul-lt-mul_of_pos_right l B.some) (lt_of_lt_of_le B.above (mul-le-mul_right c (doubles.above q k B.low p j few l)))
    where
      go : (x y : ℕ) → x * c < y * c → 2 * N < (x + y) * c → apart (x * c) N < apart (y * c) N
      go x y l h = let g : 2 * N < x * c + y * c = omega arith in far (x * c) (y * c) l g
        where
          far : (u v : ℕ) → u < v → 2 * N < u + v → apart u N < apart v N
          far u v l h = omega arith

  nearer_below : Y < X → apart (X * c) N < apart (Y * c) N
  nearer_below l = far (X * c) (Y * c) (mul-lt-mul_of_pos_right l B.some) (elim (doubles.below q k B.low p j few l) [
    | inl g ↦ less X Y (lt_of_le_of_lt (mul-le-mul_right c g) B.below)
    | inr e ↦ subst (λ (z : ℕ). z * 2 ^ k * c + Y * c < 2 * N) (sym e.0) (edge (2 ^ 52 * 2 ^ k * c) (Y * c) B.edge (mul-lt-mul_of_pos_right e.1 B.some))
  ])
    where
      far : (u v : ℕ) → v < u → u + v < 2 * N → apart u N < apart v N
      far u v l h = omega arith

      less : (x y : ℕ) → (x + y) * c < 2 * N → x * c + y * c < 2 * N
      less x y h = omega arith

      edge : (a v : ℕ) → a ≤ N → v < a → a + v < 2 * N
      edge a v h l = omega arith

  -- with another sign
  nearer_across : apart (X * c) N < Y * c + N
  nearer_across = far (X * c) (Y * c) (mul-pos (mul-pos (some q B.low) (pow_pos k)) B.some) (lt_of_le_of_lt (mul-le-mul_right c (mul-le-mul_right (2 ^ k) (more q B.low))) B.below)
    where
      some : (q : ℕ) → 2 ^ 52 ≤ q → 0 < q
      some q h = omega arith

      more : (q : ℕ) → 2 ^ 52 ≤ q → q ≤ 2 * q - 1
      more q h = omega arith

      far : (u v : ℕ) → 0 < u → u < 2 * N → apart u N < v + N
      far u v h l = omega arith

  nearer_same : (Y ≢ X) → apart (X * c) N < apart (Y * c) N
  nearer_same other = go (compare X Y) (cmp X Y)
    where
      go : (o : Ordering) → Cmp o X Y → apart (X * c) N < apart (Y * c) N
      go Ordering.lt l = nearer_above l
      go Ordering.eq e = absurd (other (sym e))
      go Ordering.gt l = nearer_below l

  nearer : (s t : Bool) → (t ≡ s → Y ≢ X) → gap s s (X * c) N < gap t s (Y * c) N
  nearer true true other = nearer_same (other refl)
  nearer false false other = nearer_same (other refl)
  nearer true false other = nearer_across
  nearer false true other = nearer_across

-- ---- of floats
-- a / d is x units of 1 / L, so what lies between it and n / c goes with them
in_units_lem : (s t : Bool) (L a d n c x : ℕ) → a * L ≡ x * d → gap s t (a * c) (n * d) * L ≡ gap s t (x * c) (n * L) * d
in_units_lem s t L a d n c x e =
    sym (gap_scaled s t (a * c) (n * d) L)
    ∙ ap (λ (z : ℕ). gap s t z (n * d * L)) (mul_right_comm a c L ∙ ap (λ (z : ℕ). z * c) e ∙ mul_right_comm x d c)
    ∙ ap (λ (z : ℕ). gap s t (x * c * d) z) (mul_right_comm n d L)
    ∙ gap_scaled s t (x * c) (n * L) d

from_units : (s t : Bool) (L a d b e n c x y : ℕ) → 0 < d → 0 < e → 0 < c → a * L ≡ x * d → b * L ≡ y * e → gap s s (x * c) (n * L) < gap t s (y * c) (n * L)
    → gap s s (a * c) (n * d) * (e * c) < gap t s (b * c) (n * e) * (d * c)
from_units s t L a d b e n c x y D E C p q h =
    lt_of_mul-lt-mul_right L
    (scaled (gap s s (a * c) (n * d)) (gap t s (b * c) (n * e)) (gap s s (x * c) (n * L)) (gap t s (y * c) (n * L)) (in_units_lem s s L a d n c x p) (in_units_lem t s L b e n c y q) h)
  where
    scaled : (x y u v : ℕ) → x * L ≡ u * d → y * L ≡ v * e → u < v → x * (e * c) * L < y * (d * c) * L
    scaled x y u v f g h =
        let i : x * (e * c) * L ≡ u * d * (e * c) = mul_right_comm x (e * c) L ∙ ap (λ (z : ℕ). z * (e * c)) f in
        let j : y * (d * c) * L ≡ v * e * (d * c) = mul_right_comm y (d * c) L ∙ ap (λ (z : ℕ). z * (d * c)) g in
        let k : u * (d * (e * c)) < v * (d * (e * c)) = mul-lt-mul_of_pos_right h (mul-pos D (mul-pos E C)) in
        omega arith

exact_is : (s : Bool) (m : ℕ) (e : ℤ) → exact (fin s m e) ≡ record { over = signed s (m * up e); under = down e }
exact_is true m e = refl
exact_is false m e = refl

module _ (s : Bool) (n c q k : ℕ) (B : BetweenHalves (n * 2 ^ 1074) c q k) where
  abbrev fraction : Fraction
  fraction = record { over = signed s n; under = c }

  further : (m : ℕ) (e : ℤ) → Double (fin s m e) → m * up e * 2 ^ 1074 ≡ q * 2 ^ k * down e → (y : Float) → Double y → IsNumber y → y ≢ fin s m e
      → Smaller (exact (fin s m e) ⊖ fraction) (exact y ⊖ fraction)
  further m e F h nan G I other = absurd (lt_irrefl 0 I)
  further m e F h (inf t) G I other = absurd (lt_irrefl 0 I)
  further m e F h (fin t p f) G I other =
      let y = counted t p f G in
      let Y : p * up f * 2 ^ 1074 ≡ p * 2 ^ y.k * down f = y.exact ∙ ap (λ (z : ℕ). z * down f) y.is in
      let g =
      from_units s t (2 ^ 1074) (m * up e) (down e) (p * up f) (down f) n c (q * 2 ^ k) (p * 2 ^ y.k) (down_pos e) (down_pos f) B.some h Y
      (nearer (n * 2 ^ 1074) c q k B p y.k y.digits s t (λ r v. other (same_value s (fin t p f) (fin s m e) (q * 2 ^ k) G F (r, Y ∙ ap (λ (z : ℕ). z * down f) v) (refl, h)))) in
      subst (λ (x : Fraction). Smaller (x ⊖ fraction) (exact (fin t p f) ⊖ fraction)) (sym (exact_is s m e))
      (subst (λ (x : Fraction). Smaller (record { over = signed s (m * up e); under = down e } ⊖ fraction) (x ⊖ fraction)) (sym (exact_is t p f))
      (subst (λ (z : ℕ). z * (down f * c) < nat_abs (signed t (p * up f) *ℤ pos c -ℤ signed s n *ℤ pos (down f)) * (down e * c)) (sym (size_apart s s (m * up e) (down e) n c))
      (subst (λ (z : ℕ). gap s s (m * up e * c) (n * down e) * (down f * c) < z * (down e * c)) (sym (size_apart t s (p * up f) (down f) n c)) g)))

  is_nearest : (x : Float) → Double x → HasValue x s (q * 2 ^ k) (2 ^ 1074) → IsNearestTo fraction x
  is_nearest nan F h = absurd h
  is_nearest (inf t) F h = absurd h
  is_nearest (fin t m e) F h =
      subst (IsNearestTo fraction) (ap (λ (b : Bool). fin b m e) (sym h.0))
      (record {
        double = subst (λ (b : Bool). Double (fin b m e)) h.0 F;
        number = subst (λ (x : Fraction). 0 < x.under) (sym (exact_is s m e)) (down_pos e);
        nearest = further m e (subst (λ (b : Bool). Double (fin b m e)) h.0 F) h.1;
      })

-- ---- of what is rounded
unfoldable pub is_between_halves : ℕ → ℕ → ℕ → ℕ → Bool
is_between_halves N c q k = ltb 0 c && (leb (2 ^ 52) q && (ltb ((2 * q - 1) * 2 ^ k * c) (2 * N) && (ltb (2 * N) ((2 * q + 1) * 2 ^ k * c) && leb (2 ^ 52 * 2 ^ k * c) N)))

from_test : (N c q k : ℕ) → T (is_between_halves N c q k) → BetweenHalves N c q k
unfolding is_between_halves
from_test N c q k t =
    let b1 = ltb 0 c in
    let b2 = leb (2 ^ 52) q in
    let b3 = ltb ((2 * q - 1) * 2 ^ k * c) (2 * N) in
    let b4 = ltb (2 * N) ((2 * q + 1) * 2 ^ k * c) in
    let b5 = leb (2 ^ 52 * 2 ^ k * c) N in
    let t2 = and_r b1 (b2 && (b3 && (b4 && b5))) t in
    let t3 = and_r b2 (b3 && (b4 && b5)) t2 in
    let t4 = and_r b3 (b4 && b5) t3 in
    record {
      some = ltb→lt 0 c (and_l b1 (b2 && (b3 && (b4 && b5))) t);
      low = leb→le (2 ^ 52) q (and_l b2 (b3 && (b4 && b5)) t2);
      below = ltb→lt ((2 * q - 1) * 2 ^ k * c) (2 * N) (and_l b3 (b4 && b5) t3);
      above = ltb→lt (2 * N) ((2 * q + 1) * 2 ^ k * c) (and_l b4 b5 t4);
      edge = leb→le (2 ^ 52 * 2 ^ k * c) N (and_r b4 b5 t4);
    }

-- n / c has all 53 digits of a double and more, is not half-way between two, and rounds to a number
unfoldable pub is_no_tie : ℕ → ℕ → Bool
is_no_tie n c = is_between_halves (n * 2 ^ 1074) c (kept 53 (n * 2 ^ 1074) c) (drop 53 (n * 2 ^ 1074) c) && ltb (grid binary64 n c) (overflow binary64)

rounded : (s : Bool) (n c : ℕ) → T (is_no_tie n c) → IsNearestTo (record { over = signed s n; under = c }) (round binary64 s n c)
unfolding is_no_tie
rounded s n c t =
    let N = n * 2 ^ 1074 in
    let q = kept 53 N c in
    let k = drop 53 N c in
    let a = is_between_halves N c q k in
    let b = ltb (q * 2 ^ k) (overflow binary64) in
    is_nearest s n c q k (from_test N c q k (and_l a b t)) (round binary64 s n c) (round-fits binary64 s n c)
    (subst (λ (x : Float). HasValue x s (q * 2 ^ k) (2 ^ 1074)) (sym (round_is binary64 s n c)) (units_val binary64 s q k (ltb→lt (q * 2 ^ k) (overflow binary64) (and_r a b t))))

pub nearest_double_lem : (x : Fraction) → T (is_no_tie (nat_abs x.over) x.under) → IsNearestTo x (nearest_double x)
unfolding nearest_double
nearest_double_lem x t = go x.over t
  where
    go : (z : ℤ) → T (is_no_tie (nat_abs z) x.under) → IsNearestTo (record { over = z; under = x.under }) (nearest_double (record { over = z; under = x.under }))
    go (pos n) t = rounded false n x.under t
    go (negsuc n) t = rounded true (suc n) x.under t
