-- The tail test |x| - |y| < -1e-12·|y| of whole numbers is |x| < |y|, for |y| from 1 to 10 ^ 9.
use mathlib.Core.Path.{◌≡◌, refl, sym, ap, ◌∙◌, subst}
use Prim.Native.Nat.{ℕ, zero, suc, ◌+◌, ◌*◌, ◌^◌, ◌≤◌, ◌<◌, min, max}
use native.Mathlib.Nat.{mul-one, mul-pos, mul-le-mul_right}
use native.Mathlib.Omega.{arith}
use mathlib.Core.Bool.{Bool, true, false, ◌&&◌}
use lib.IntN.{ℤ, negsuc}
use lib.Dec.{T, ltb, lt→ltb, ltb→lt, lit<}
use lib.Arith.{le→nltb}
use lib.Ieee.{nan, inf, Float, fin, Format, binary64, up, down, unlike, round, below, neg, sub, mul, lt, le}
use lib.Ieee.Fits.{down_pos}
use lib.Ieee.Exact.{HasValue}
use lib.Ieee.Order.{round_mono}
use lib.Ieee.Scale.{round_same}
use lib.Ieee.Bits.{is_true, is_false}
use Rattle.double.proofs.Signs.{Clear, round_clear, at_most}
use Rattle.triple.specs.Size.{absolute}
use Rattle.whole.proofs.Scale.{bool_ext}
use Rattle.whole.proofs.Exact.{Diff, Is, move, absolute_whole, sub_whole}
use Rattle.whole.proofs.Quotient.{round_neg}

-- ---- 1e-12, the double nearest to it
abbrev tiny : Float
tiny = fin false 4951760157141521 (negsuc 91)

tiny_is : round binary64 false 1 (10 ^ 12) ≡ tiny
unfolding round
tiny_is = refl

abbrev half : Float
half = fin false 1 (negsuc 0)

half_round : round binary64 false 1 2 ≡ half
unfolding round
half_round = refl

-- a constant times a whole number
pub mul_by : (f : Format) (s : Bool) (c : ℕ) (e : ℤ) (y : Float) (t : Bool) (b : ℕ) → HasValue y t b 1 → mul f (fin s c e) y ≡ round f (unlike s t) (c * up e * b) (down e)
unfolding mul
mul_by f s c e nan t b k = elim k [ ]
mul_by f s c e (inf _) t b k = elim k [ ]
mul_by f s c e (fin v n d) t b k =
    ap (λ (z : Bool). round f (unlike s z) (c * up e * (n * up d)) (down e * down d)) k.0
    ∙ ap (λ (z : ℕ). round f (unlike s t) (c * up e * z) (down e * down d)) (sym (mul-one (n * up d)) ∙ k.1)
    ∙ round_same f (unlike s t) (c * up e * (b * down d)) (down e * down d) (c * up e * b) (down e) (mul-pos (down_pos e) (down_pos d)) (down_pos e) (omega arith)

-- m < 0 fails, and N / dd ≤ 1 / 2 is below any m that is 1 at least
half_test : (m N de dd : ℕ) → 0 < de → 0 < dd → N * 2 ≤ 1 * dd → ltb (N * de) (m * de * dd) ≡ ltb 0 m
half_test zero N de dd E D h = is_false (ltb (N * de) (0 * de * dd)) (le→nltb (N * de) (0 * de * dd) (omega arith))
half_test (suc m) N de dd E D h =
    let a : N * 2 * de ≤ 1 * dd * de = mul-le-mul_right de h in
    let b : 0 < dd * de = mul-pos D E in
    is_true (ltb (N * de) (suc m * de * dd)) (lt→ltb (N * de) (suc m * de * dd) (omega arith)) ∙ sym (is_true (ltb 0 (suc m)) (lt→ltb 0 (suc m) (omega arith)))

-- D is a whole number, P lies from 0 to a half: D < -P exactly if D is negative
below_half : (D : Float) (s : Bool) (m : ℕ) (P : Float) → HasValue D s m 1 → Clear P → T (le P half) → lt D (neg P) ≡ (s && ltb 0 m)
unfolding le neg
below_half nan s m P v c h = elim v [ ]
below_half (inf _) s m P v c h = elim v [ ]
below_half (fin u k e) s m nan v c h = elim c [ ]
below_half (fin u k e) s m (inf true) v c h = absurd c
below_half (fin u k e) s m (inf false) v c h = absurd h
below_half (fin u k e) s m (fin true n d) v c h = absurd c
below_half (fin u k e) s m (fin false n d) v c h =
    ap (λ (z : Bool). below z (k * up e * down d) true (n * up d * down e)) v.0 ∙ go s
  where
    P2 : n * up d * 2 ≤ 1 * down d
    P2 = at_most (n * up d * 2) (1 * down d) h

    E : k * up e ≡ m * down e
    E = sym (mul-one (k * up e)) ∙ v.1

    go : (s : Bool) → below s (k * up e * down d) true (n * up d * down e) ≡ (s && ltb 0 m)
    go false = refl
    go true = ap (λ (z : ℕ). ltb (n * up d * down e) (z * down d)) E ∙ half_test m (n * up d) (down e) (down d) (down_pos e) (down_pos d) P2

-- -1e-12 y, for a whole y from 1 to 10 ^ 9
small_step : (y : Float) (b : ℕ) → HasValue y false b 1 → b ≤ 1_000_000_000
    → (P : Float) × (mul binary64 (neg tiny) y ≡ neg P) × Clear P × T (le P half)
unfolding neg
small_step y b v h = (
  P,
  mul_by binary64 true 4951760157141521 (negsuc 91) y false b v ∙ sym (round_neg binary64 (4951760157141521 * 1 * b) (2 ^ 92)),
  round_clear binary64 (4951760157141521 * 1 * b) (2 ^ 92),
  subst (λ (z : Float). T (le P z)) half_round (round_mono binary64 (4951760157141521 * 1 * b) (2 ^ 92) 1 2 (lit< tt) (lit< tt) (omega arith)),
)
  where
    P : Float
    P = round binary64 false (4951760157141521 * 1 * b) (2 ^ 92)

-- a whole number a - b below -1e-12 b, for a whole y = b from 1 to 10 ^ 9
short_test : (D y : Float) (a b : ℕ) → Is D a b → HasValue y false b 1 → b ≤ 1_000_000_000 → lt D (mul binary64 (neg tiny) y) ≡ ltb a b
short_test D y a b X v h =
    let P = small_step y b v h in
    ap (λ (z : Float). lt D z) P.1 ∙ below_half D X.sign X.size P.0 X.value P.2 P.3 ∙ go X.sign X.size X.diff
  where
    go : (s : Bool) (m : ℕ) → Diff s m a b → (s && ltb 0 m) ≡ ltb a b
    go false m d = sym (is_false (ltb a b) (le→nltb a b (omega arith)))
    go true m d = bool_ext (ltb 0 m) (ltb a b) (λ (t : T (ltb 0 m)). omega (arith, ltb→lt, lt→ltb)) (λ (t : T (ltb a b)). omega (arith, ltb→lt, lt→ltb))

positive_value : {y : Float} (b : ℕ) → Is y b 0 → 0 < b → HasValue y false b 1
positive_value {y} b Y B = go Y.sign Y.size Y.value Y.diff
  where
    go : (s : Bool) (n : ℕ) → HasValue y s n 1 → Diff s n b 0 → HasValue y false b 1
    go false n v d = let e : n ≡ b = omega arith in subst (λ (k : ℕ). HasValue y false k 1) e v
    go true n v d = absurd (omega arith)

-- |x| = a, |y| = b
pub short_is : {x y : Float} {p q p' q' : ℕ} (a b : ℕ) → Is x p q → Is y p' q' → a + min p q ≡ max p q → b + min p' q' ≡ max p' q'
    → a ≤ 2 ^ 53 → 0 < b → b ≤ 1_000_000_000
    → lt (sub binary64 (absolute x) (absolute y)) (mul binary64 (neg (round binary64 false 1 (10 ^ 12))) (absolute y)) ≡ ltb a b
short_is {x} {y} {p} {q} {p'} {q'} a b X Y ea eb A B1 B2 =
    let U : Is (absolute x) a 0 = move a 0 (absolute_whole X) (omega arith) in
    let W : Is (absolute y) b 0 = move b 0 (absolute_whole Y) (omega arith) in
    let D : Is (sub binary64 (absolute x) (absolute y)) a b = move a b (sub_whole U W (omega arith) (omega arith)) (omega arith) in
    ap (λ (z : Float). lt (sub binary64 (absolute x) (absolute y)) (mul binary64 (neg z) (absolute y))) tiny_is
    ∙ short_test (sub binary64 (absolute x) (absolute y)) (absolute y) a b D (positive_value b W B1) B2
