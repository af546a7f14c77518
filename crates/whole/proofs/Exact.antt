-- `Is x p q`: x is the whole number p - q. Sums, differences, products and comparisons of such floats are exact up to 2 ^ 53.
use mathlib.Core.Path.{◌≡◌, refl, sym, ap, ◌∙◌, subst}
use mathlib.Core.Logic.{◌⊎◌, inl, inr, ◌≢◌}
use Prim.Native.Nat.{ℕ, ◌+◌, ◌-◌, ◌*◌, ◌^◌, ◌≤◌, ◌<◌, min, max}
use native.Mathlib.Nat.{le_trans, mul-le-mul}
use native.Mathlib.Omega.{arith}
use mathlib.Core.Bool.{Bool, true, false, not, ◌&&◌, ◌||◌, cond}
use lib.IntN.{pos}
use lib.Dec.{T, ltb, leb, eqb, lt→ltb, le→leb, ltb→lt, leb→le, nltb→le, eqb→eq, lit≤}
use lib.Ieee.{Float, nan, inf, fin, binary64, unlike, round, sum, below, level, neg, add, sub, mul, lt, le, eq, fits, of_int}
use lib.Ieee.Fits.{round-fits, neg-fits, eq→eqb, and_i, and_l, and_r}
use lib.Ieee.Exact.{HasValue}
use lib.Ieee.Back.{round_whole, whole_unique}
use Rattle.triple.specs.Arithmetic.{nought}
use Rattle.triple.specs.Size.{absolute}
use Rattle.whole.proofs.Scale.{bool_ext}
use Rattle.whole.proofs.Values.{add_is, mul_is, lt_is, eq_is}

-- ---- the whole number p - q
abbrev pub Diff : Bool → ℕ → ℕ → ℕ → Type 0
Diff false n p q = n + q ≡ p
Diff true n p q = n + p ≡ q

-- x is a binary64 value, and it is p - q. Where p is q, x may be -0.
pub record Is (x : Float) (p q : ℕ) : Type 0 where
  pub holds : T (fits binary64 x)
  pub sign : Bool
  pub size : ℕ
  pub value : HasValue x sign size 1
  pub diff : Diff sign size p q

pub of_round : (s : Bool) (n p q : ℕ) → n ≤ 2 ^ 53 → Diff s n p q → Is (round binary64 s n 1) p q
of_round s n p q h d = record { holds = round-fits binary64 s n 1; sign = s; size = n; value = round_whole binary64 s n h; diff = d }

pub move : {x : Float} {p q : ℕ} (p' q' : ℕ) → Is x p q → p + q' ≡ p' + q → Is x p' q'
move {x} {p} {q} p' q' X e = record { holds = X.holds; sign = X.sign; size = X.size; value = X.value; diff = go X.sign X.diff }
  where
    go : (s : Bool) → Diff s X.size p q → Diff s X.size p' q'
    go false d = omega arith
    go true d = omega arith

sum_whole : (s : Bool) (a : ℕ) (t : Bool) (b p q p' q' : ℕ) → Diff s a p q → Diff t b p' q' → p + p' ≤ q + q' + 2 ^ 53 → q + q' ≤ p + p' + 2 ^ 53 → Is (sum binary64 s a t b 1) (p + p') (q + q')
unfolding sum
sum_whole false a false b p q p' q' d c h k = of_round false (a + b) (p + p') (q + q') (omega arith) (omega arith)
sum_whole true a true b p q p' q' d c h k = of_round true (a + b) (p + p') (q + q') (omega arith) (omega arith)
sum_whole false a true b p q p' q' d c h k = go (ltb a b) (ltb→lt a b) (nltb→le a b)
  where
    go : (z : Bool) → (T z → a < b) → (T (not z) → b ≤ a) → Is (cond z (round binary64 true (b - a) 1) (round binary64 false (a - b) 1)) (p + p') (q + q')
    go true f g = let l = f tt in of_round true (b - a) (p + p') (q + q') (omega arith) (omega arith)
    go false f g = let l = g tt in of_round false (a - b) (p + p') (q + q') (omega arith) (omega arith)
sum_whole true a false b p q p' q' d c h k = go (ltb a b) (ltb b a) (ltb→lt a b) (nltb→le a b) (ltb→lt b a) (nltb→le b a)
  where
    go : (z w : Bool) → (T z → a < b) → (T (not z) → b ≤ a) → (T w → b < a) → (T (not w) → a ≤ b) → Is (cond z (round binary64 false (b - a) 1) (round binary64 w (a - b) 1)) (p + p') (q + q')
    go true w f g f' g' = let l = f tt in of_round false (b - a) (p + p') (q + q') (omega arith) (omega arith)
    go false true f g f' g' = let l = f' tt in of_round true (a - b) (p + p') (q + q') (omega arith) (omega arith)
    go false false f g f' g' = let l = g tt in let m = g' tt in of_round false (a - b) (p + p') (q + q') (omega arith) (omega arith)

pub add_whole : {x y : Float} {p q p' q' : ℕ} → Is x p q → Is y p' q' → p + p' ≤ q + q' + 2 ^ 53 → q + q' ≤ p + p' + 2 ^ 53 → Is (add binary64 x y) (p + p') (q + q')
add_whole {x} {y} {p} {q} {p'} {q'} X Y h k =
    subst (λ (z : Float). Is z (p + p') (q + q')) (sym (add_is binary64 x y X.sign X.size Y.sign Y.size X.value Y.value))
    (sum_whole X.sign X.size Y.sign Y.size p q p' q' X.diff Y.diff h k)

neg_value : (x : Float) (s : Bool) (n : ℕ) → HasValue x s n 1 → HasValue (neg x) (not s) n 1
unfolding neg
neg_value nan s n h = elim h [ ]
neg_value (inf _) s n h = elim h [ ]
neg_value (fin t m e) s n h = (ap not h.0, h.1)

pub neg_whole : {x : Float} {p q : ℕ} → Is x p q → Is (neg x) q p
neg_whole {x} {p} {q} X = record { holds = neg-fits binary64 x X.holds; sign = not X.sign; size = X.size; value = neg_value x X.sign X.size X.value; diff = go X.sign X.diff }
  where
    go : (s : Bool) → Diff s X.size p q → Diff (not s) X.size q p
    go false d = d
    go true d = d

pub sub_whole : {x y : Float} {p q p' q' : ℕ} → Is x p q → Is y p' q' → p + q' ≤ q + p' + 2 ^ 53 → q + p' ≤ p + q' + 2 ^ 53 → Is (sub binary64 x y) (p + q') (q + p')
unfolding sub
sub_whole X Y h k = add_whole X (neg_whole Y) h k

-- ---- products
mul_bound : (s : Bool) (a : ℕ) (t : Bool) (b p q p' q' : ℕ) → Diff s a p q → Diff t b p' q' → Diff (unlike s t) (a * b) (p * p' + q * q') (p * q' + q * p')
mul_bound s a t b p q p' q' d c = go s t d c
  where
    both : (a b p q p' q' : ℕ) → a + q ≡ p → b + q' ≡ p' → a * b + (p * q' + q * p') ≡ p * p' + q * q'
    both a b p q p' q' d c = subst (λ (z : ℕ). a * b + (z * q' + q * p') ≡ z * p' + q * q') d (subst (λ (z : ℕ). a * b + ((a + q) * q' + q * z) ≡ (a + q) * z + q * q') c (omega arith))

    go : (s t : Bool) → Diff s a p q → Diff t b p' q' → Diff (unlike s t) (a * b) (p * p' + q * q') (p * q' + q * p')
    go false false d c = both a b p q p' q' d c
    go false true d c = both a b p q q' p' d c
    go true false d c = let e = both a b q p p' q' d c in omega arith
    go true true d c = let e = both a b q p q' p' d c in omega arith

pub size_le : {x : Float} {p q : ℕ} (A : ℕ) (X : Is x p q) → p ≤ q + A → q ≤ p + A → X.size ≤ A
size_le {x} {p} {q} A X h k = go X.sign X.diff
  where
    go : (s : Bool) → Diff s X.size p q → X.size ≤ A
    go false d = omega arith
    go true d = omega arith

-- x is at most A in size, y at most B
pub mul_whole : {x y : Float} {p q p' q' : ℕ} (A B : ℕ) → Is x p q → Is y p' q' → p ≤ q + A → q ≤ p + A → p' ≤ q' + B → q' ≤ p' + B → A * B ≤ 2 ^ 53
    → Is (mul binary64 x y) (p * p' + q * q') (p * q' + q * p')
mul_whole {x} {y} {p} {q} {p'} {q'} A B X Y a a' b b' h =
    subst (λ (z : Float). Is z (p * p' + q * q') (p * q' + q * p')) (sym (mul_is binary64 x y X.sign X.size Y.sign Y.size X.value Y.value))
    (of_round (unlike X.sign Y.sign) (X.size * Y.size) (p * p' + q * q') (p * q' + q * p') (le_trans (mul-le-mul (size_le A X a a') (size_le B Y b b')) h)
    (mul_bound X.sign X.size Y.sign Y.size p q p' q' X.diff Y.diff))

pub mul_plus : {x y : Float} {p q : ℕ} → Is x p q → Is y 1 0 → p ≤ q + 2 ^ 53 → q ≤ p + 2 ^ 53 → Is (mul binary64 x y) p q
mul_plus {x} {y} {p} {q} X Y h k = move p q (mul_whole (2 ^ 53) 1 X Y h k (lit≤ tt) (lit≤ tt) (lit≤ tt)) (omega arith)

pub mul_minus : {x y : Float} {p q : ℕ} → Is x p q → Is y 0 1 → p ≤ q + 2 ^ 53 → q ≤ p + 2 ^ 53 → Is (mul binary64 x y) q p
mul_minus {x} {y} {p} {q} X Y h k = move q p (mul_whole (2 ^ 53) 1 X Y h k (lit≤ tt) (lit≤ tt) (lit≤ tt)) (omega arith)

-- ---- comparisons
below_diff : (s : Bool) (a : ℕ) (t : Bool) (b p q p' q' : ℕ) → Diff s a p q → Diff t b p' q' → below s a t b ≡ ltb (p + q') (p' + q)
below_diff false a false b p q p' q' d c = bool_ext (ltb a b) (ltb (p + q') (p' + q)) (λ (t : T (ltb a b)). omega (arith, ltb→lt, lt→ltb)) (λ (t : T (ltb (p + q') (p' + q))). omega (arith, ltb→lt, lt→ltb))
below_diff false a true b p q p' q' d c = bool_ext false (ltb (p + q') (p' + q)) (λ (t : ⊥). absurd t) (λ (t : T (ltb (p + q') (p' + q))). omega (arith, ltb→lt))
below_diff true a false b p q p' q' d c = bool_ext (ltb 0 (a + b)) (ltb (p + q') (p' + q)) (λ (t : T (ltb 0 (a + b))). omega (arith, ltb→lt, lt→ltb)) (λ (t : T (ltb (p + q') (p' + q))). omega (arith, ltb→lt, lt→ltb))
below_diff true a true b p q p' q' d c = bool_ext (ltb b a) (ltb (p + q') (p' + q)) (λ (t : T (ltb b a)). omega (arith, ltb→lt, lt→ltb)) (λ (t : T (ltb (p + q') (p' + q))). omega (arith, ltb→lt, lt→ltb))

level_diff : (s : Bool) (a : ℕ) (t : Bool) (b p q p' q' : ℕ) → Diff s a p q → Diff t b p' q' → level s a t b ≡ eqb (p + q') (p' + q)
level_diff s a t b p q p' q' d c = go s t d c
  where
    X : ℕ
    X = p + q'

    Y : ℕ
    Y = p' + q

    same : (X ≡ Y → a ≡ b) → (a ≡ b → X ≡ Y) → eqb a b && true ≡ eqb X Y
    same f g = bool_ext (eqb a b && true) (eqb X Y) (λ (t : T (eqb a b && true)). eq→eqb (g (eqb→eq a b (and_l (eqb a b) true t)))) (λ (t : T (eqb X Y)). and_i (eqb a b) true (eq→eqb (f (eqb→eq X Y t))) tt)

    apart : (X ≡ Y → a ≡ 0) → (X ≡ Y → b ≡ 0) → (a ≡ 0 → b ≡ 0 → X ≡ Y) → eqb a b && eqb a 0 ≡ eqb X Y
    apart f g k = bool_ext (eqb a b && eqb a 0) (eqb X Y)
        (λ (t : T (eqb a b && eqb a 0)). let u = eqb→eq a b (and_l (eqb a b) (eqb a 0) t) in let v = eqb→eq a 0 (and_r (eqb a b) (eqb a 0) t) in eq→eqb (k v (omega arith)))
        (λ (t : T (eqb X Y)). let e = eqb→eq X Y t in let u = f e in let v = g e in and_i (eqb a b) (eqb a 0) (eq→eqb {a = a} {b = b} (omega arith)) (eq→eqb u))

    go : (s t : Bool) → Diff s a p q → Diff t b p' q' → level s a t b ≡ eqb X Y
    go false false d c = same (λ (e : X ≡ Y). omega arith) (λ (e : a ≡ b). omega arith)
    go false true d c = apart (λ (e : X ≡ Y). omega arith) (λ (e : X ≡ Y). omega arith) (λ (e : a ≡ 0) (e' : b ≡ 0). omega arith)
    go true false d c = apart (λ (e : X ≡ Y). omega arith) (λ (e : X ≡ Y). omega arith) (λ (e : a ≡ 0) (e' : b ≡ 0). omega arith)
    go true true d c = same (λ (e : X ≡ Y). omega arith) (λ (e : a ≡ b). omega arith)

pub lt_whole : {x y : Float} {p q p' q' : ℕ} → Is x p q → Is y p' q' → lt x y ≡ ltb (p + q') (p' + q)
lt_whole {x} {y} {p} {q} {p'} {q'} X Y =
    lt_is x y X.sign X.size Y.sign Y.size X.value Y.value ∙ below_diff X.sign X.size Y.sign Y.size p q p' q' X.diff Y.diff

pub eq_whole : {x y : Float} {p q p' q' : ℕ} → Is x p q → Is y p' q' → eq x y ≡ eqb (p + q') (p' + q)
eq_whole {x} {y} {p} {q} {p'} {q'} X Y =
    eq_is x y X.sign X.size Y.sign Y.size X.value Y.value ∙ level_diff X.sign X.size Y.sign Y.size p q p' q' X.diff Y.diff

or_le : (a b : ℕ) → ltb a b || eqb a b ≡ leb a b
or_le a b = bool_ext (ltb a b || eqb a b) (leb a b)
    (λ (t : T (ltb a b || eqb a b)). go (ltb a b) (eqb a b) (ltb→lt a b) (eqb→eq a b) t)
    (λ (t : T (leb a b)). back (ltb a b) (nltb→le a b) (leb→le a b t))
  where
    go : (x y : Bool) → (T x → a < b) → (T y → a ≡ b) → T (x || y) → T (leb a b)
    go true y f g t = let l = f tt in le→leb a b (omega arith)
    go false y f g t = let l = g t in le→leb a b (omega arith)

    back : (x : Bool) → (T (not x) → b ≤ a) → a ≤ b → T (x || eqb a b)
    back true f h = tt
    back false f h = let l = f tt in eq→eqb {a = a} {b = b} (omega arith)

pub le_whole : {x y : Float} {p q p' q' : ℕ} → Is x p q → Is y p' q' → le x y ≡ leb (p + q') (p' + q)
unfolding le
le_whole {x} {y} {p} {q} {p'} {q'} X Y = ap (λ (c : Bool). c || eq x y) (lt_whole X Y) ∙ ap (λ (c : Bool). ltb (p + q') (p' + q) || c) (eq_whole X Y) ∙ or_le (p + q') (p' + q)

-- ---- the size of a whole number
pub size_is : {x : Float} {p q : ℕ} (X : Is x p q) → X.size + min p q ≡ max p q
size_is {x} {p} {q} X = go X.sign X.diff
  where
    go : (s : Bool) → Diff s X.size p q → X.size + min p q ≡ max p q
    go false d = omega arith
    go true d = omega arith

-- ---- zero, one and the absolute value
pub nought_whole : Is nought 0 0
unfolding fits
nought_whole = record { holds = tt; sign = false; size = 0; value = (refl, refl); diff = refl }

pub one_whole : Is (of_int binary64 (pos 1)) 1 0
unfolding of_int
one_whole = of_round false 1 1 0 (lit≤ tt) refl

absolute_value : (x : Float) (s : Bool) (n : ℕ) → HasValue x s n 1 → HasValue (absolute x) false n 1
unfolding absolute
absolute_value nan s n h = elim h [ ]
absolute_value (inf _) s n h = elim h [ ]
absolute_value (fin t m e) s n h = (refl, h.1)

absolute_fits : (x : Float) → T (fits binary64 x) → T (fits binary64 (absolute x))
unfolding absolute fits
absolute_fits nan h = h
absolute_fits (inf s) h = h
absolute_fits (fin s m e) h = h

pub absolute_whole : {x : Float} {p q : ℕ} → Is x p q → Is (absolute x) (max p q) (min p q)
absolute_whole {x} {p} {q} X =
    record {
      holds = absolute_fits x X.holds;
      sign = false;
      size = X.size;
      value = absolute_value x X.sign X.size X.value;
      diff = size_is X;
    }

-- ---- one value, unless it is zero
pub is_unique : {x y : Float} {p q : ℕ} → Is x p q → Is y p q → p ≢ q → x ≡ y
is_unique {x} {y} {p} {q} X Y h =
    let e = go X.sign Y.sign X.size Y.size X.diff Y.diff in
    whole_unique binary64 x y X.sign X.size X.holds Y.holds X.value
    (subst (λ (n : ℕ). HasValue y X.sign n 1) (sym e.1) (subst (λ (s : Bool). HasValue y s Y.size 1) (sym e.0) Y.value))
  where
    go : (s t : Bool) (a b : ℕ) → Diff s a p q → Diff t b p q → (s ≡ t) × (a ≡ b)
    go false false a b d c = (refl, omega arith)
    go false true a b d c = absurd (omega arith)
    go true false a b d c = absurd (omega arith)
    go true true a b d c = (refl, omega arith)

pub is_zero : {x : Float} {p : ℕ} → Is x p p → (x ≡ nought) ⊎ (x ≡ neg nought)
unfolding neg
is_zero {x} {p} X = go X.sign X.size X.value X.diff
  where
    go : (s : Bool) (n : ℕ) → HasValue x s n 1 → Diff s n p p → (x ≡ nought) ⊎ (x ≡ fin true 0 (pos 0))
    go false n v d = let e : n ≡ 0 = omega arith in inl (whole_unique binary64 x nought false 0 X.holds nought_whole.holds (subst (λ (k : ℕ). HasValue x false k 1) e v) (refl, refl))
    go true n v d = let e : n ≡ 0 = omega arith in inr (whole_unique binary64 x (fin true 0 (pos 0)) true 0 X.holds (neg-fits binary64 nought nought_whole.holds) (subst (λ (k : ℕ). HasValue x true k 1) e v) (refl, refl))
