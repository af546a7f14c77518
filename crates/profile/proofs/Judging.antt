-- The code's way to judge a float: its size is at most 2^50, and its whole part, as a float, is that size again.
use Rattle.std.proofs.Common.{◌≡◌, ℕ, zero, suc, ◌+◌, ◌-◌, ◌*◌, ◌/◌, ◌%◌, ◌^◌, ◌<◌, ◌≤◌, min, Bool, true, false, cond, not, ◌&&◌, ◌||◌, T, eqb, ltb, leb, ℤ, pos, neg_ℤ, nat_abs, sym, refl, ap, ◌∙◌, subst, true≢false, mul-le-mul_right, mod-lt, div-add-mod', le_of_mul-le-mul_right, arith, le→leb, eqb→eq, lt→ltb, leb→le, nltb→le, leb-false, leb-true}
use mathlib.Core.Bool.{false≢true}
use lib.Ieee.{Float, nan, inf, fin, binary64, up, down, level, round, lt, le, eq, fits, of_int, to_unsigned}
use lib.Ieee.Fits.{down_pos, eq→eqb, and_i, and_l, and_r}
use lib.Ieee.Exact.{HasValue}
use lib.Ieee.Back.{round_whole}
use Rattle.double.proofs.Signs.{at_most}
use Rattle.triple.specs.Size.{absolute}
use Rattle.triple.specs.Doubles.{Double}
use Rattle.whole.proofs.Scale.{bool_ext, level_scale}
use Rattle.profile.specs.Wholes.{whole_of, has_no_fraction, is_whole_time}

abbrev pub TwoTo50 : Float
TwoTo50 = fin false 1 (pos 50)

-- what a conversion to 64 bits takes
abbrev pub Ranged : Float → Type 0
Ranged a = T (lt (fin true 1 (pos 0)) a) × T (lt a (fin false 1 (pos 64)))

-- ---- the test "at most", over whole numbers
le_test : (a b : ℕ) → (ltb a b || (eqb a b && true)) ≡ leb a b
le_test a b = bool_ext (ltb a b || (eqb a b && true)) (leb a b) (λ (t : T (ltb a b || (eqb a b && true))). le→leb a b (at_most a b t))
    (λ (t : T (leb a b)). back (ltb a b) (eqb a b) (nltb→le a b) (λ (e : a ≡ b). eq→eqb e) (leb→le a b t))
  where
    back : (x y : Bool) → (T (not x) → b ≤ a) → (a ≡ b → T y) → a ≤ b → T (x || (y && true))
    back true y f g l = tt
    back false true f g l = tt
    back false false f g l = let k = f tt in absurd (g (omega arith))

within_is : (s : Bool) (m : ℕ) (e : ℤ) → le (absolute (fin s m e)) TwoTo50 ≡ leb (m * up e * 1) (1 * 2 ^ 50 * down e)
unfolding absolute le lt eq
within_is s m e = le_test (m * up e * 1) (1 * 2 ^ 50 * down e)

in_range : (x : Float) → le (absolute x) TwoTo50 ≡ true → Ranged (absolute x)
unfolding absolute le lt eq
in_range nan h = absurd (false≢true h)
in_range (inf s) h = absurd (false≢true h)
in_range (fin s m e) h =
    let d : 0 < down e = down_pos e in
    let l : m * up e * 1 ≤ 1 * 2 ^ 50 * down e = leb-true _ _ (sym (within_is s m e) ∙ h) in (
      lt→ltb 0 (1 * 1 * down e + m * up e * 1) (omega arith),
      lt→ltb (m * up e * 1) (1 * 2 ^ 64 * down e) (omega arith),
    )

-- ---- the size of the whole part
pub size_is : (s : Bool) (q : ℕ) → nat_abs (cond s (neg_ℤ (pos q)) (pos q)) ≡ q
size_is true zero = refl
size_is true (suc q) = refl
size_is false q = refl

pub time_is : (s : Bool) (m : ℕ) (e : ℤ) → is_whole_time (fin s m e) ≡ (eqb (m * up e % down e) 0 && leb (m * up e / down e) (2 ^ 50))
unfolding is_whole_time has_no_fraction whole_of
time_is s m e = ap (λ (n : ℕ). eqb (m * up e % down e) 0 && leb n (2 ^ 50)) (size_is s (m * up e / down e))

fine : (n d : ℕ) → 0 < d → n ≤ 2 ^ 50 * d → n / d ≤ 2 ^ 50
fine n d p h = let e = div-add-mod' n d in let l = mod-lt n p in le_of_mul-le-mul_right {k = d} (omega arith) p

cut_is : (n d : ℕ) → 0 < d → n ≤ 2 ^ 50 * d → min (n / d) (2 ^ 64 - 1) ≡ n / d
cut_is n d p h = let f = fine n d p h in omega arith

-- the float of n beside m · 2 ^ e
eq_cut : (m : ℕ) (e : ℤ) (n : ℕ) → n ≤ 2 ^ 53 → eq (of_int binary64 (pos n)) (fin false m e) ≡ eqb (n * down e) (m * up e) && true
unfolding of_int eq
eq_cut m e n h = go (round binary64 false n 1) (round_whole binary64 false n h)
  where
    go : (y : Float) → HasValue y false n 1 → eq y (fin false m e) ≡ eqb (n * down e) (m * up e) && true
    go nan v = elim v [ ]
    go (inf _) v = elim v [ ]
    go (fin t k d) v =
        let w = v.1 in
        ap (λ (b : Bool). level b (k * up d * down e) false (m * up e * down d)) v.0
        ∙ ap (λ (a : ℕ). level false a false (m * up e * down d)) (swap (k * up d) n (down d) (down e) w)
        ∙ level_scale false (n * down e) false (m * up e) (down d) (down_pos d)
      where
        swap : (a n d e : ℕ) → a * 1 ≡ n * d → a * e ≡ n * e * d
        swap a n d e h = let g : a ≡ n * d = omega arith in ap (λ (x : ℕ). x * e) g ∙ (omega arith)

whole_test : (n d : ℕ) → 0 < d → n ≤ 2 ^ 50 * d → eqb (n / d * d) n && true ≡ eqb (n % d) 0 && leb (n / d) (2 ^ 50)
whole_test n d p h =
    let e = div-add-mod' n d in
    let f = fine n d p h in
    bool_ext (eqb (n / d * d) n && true) (eqb (n % d) 0 && leb (n / d) (2 ^ 50))
    (λ (t : T (eqb (n / d * d) n && true)). let g = eqb→eq (n / d * d) n (and_l (eqb (n / d * d) n) true t) in and_i (eqb (n % d) 0) (leb (n / d) (2 ^ 50)) (eq→eqb {a = n % d} {b = 0} (omega arith)) (le→leb (n / d) (2 ^ 50) f))
    (λ (t : T (eqb (n % d) 0 && leb (n / d) (2 ^ 50))). let g = eqb→eq (n % d) 0 (and_l (eqb (n % d) 0) (leb (n / d) (2 ^ 50)) t) in and_i (eqb (n / d * d) n) true (eq→eqb {a = n / d * d} {b = n} (omega arith)) tt)

-- ---- what the code tests, and what it is
test_is : (x : Float) → le (absolute x) TwoTo50 ≡ true → eq (of_int binary64 (pos (to_unsigned 64 (absolute x)))) (absolute x) ≡ is_whole_time x
unfolding absolute le lt eq to_unsigned
test_is nan h = absurd (false≢true h)
test_is (inf s) h = absurd (false≢true h)
test_is (fin s m e) h =
    let d : 0 < down e = down_pos e in
    let l : m * up e * 1 ≤ 1 * 2 ^ 50 * down e = leb-true _ _ (sym (within_is s m e) ∙ h) in
    let b : m * up e ≤ 2 ^ 50 * down e = omega arith in
    let f = fine (m * up e) (down e) d b in
    ap (λ (n : ℕ). eq (of_int binary64 (pos n)) (fin false m e)) (cut_is (m * up e) (down e) d b)
    ∙ eq_cut m e (m * up e / down e) (omega arith)
    ∙ whole_test (m * up e) (down e) d b
    ∙ sym (time_is s m e)

part_is : (x : Float) → le (absolute x) TwoTo50 ≡ true → to_unsigned 64 (absolute x) ≡ nat_abs (whole_of x)
unfolding absolute le lt eq whole_of to_unsigned
part_is nan h = absurd (false≢true h)
part_is (inf s) h = absurd (false≢true h)
part_is (fin s m e) h =
    let d : 0 < down e = down_pos e in
    let l : m * up e * 1 ≤ 1 * 2 ^ 50 * down e = leb-true _ _ (sym (within_is s m e) ∙ h) in
    cut_is (m * up e) (down e) d (omega arith) ∙ sym (size_is s (m * up e / down e))

beyond : (x : Float) → le (absolute x) TwoTo50 ≡ false → is_whole_time x ≡ false
unfolding is_whole_time has_no_fraction
beyond nan h = refl
beyond (inf s) h = refl
beyond (fin s m e) h =
    let l : 1 * 2 ^ 50 * down e < m * up e * 1 = leb-false _ _ (sym (within_is s m e) ∙ h) in
    let g = div-add-mod' (m * up e) (down e) in
    time_is s m e
    ∙ bool_ext (eqb (m * up e % down e) 0 && leb (m * up e / down e) (2 ^ 50)) false
    (λ (t : T (eqb (m * up e % down e) 0 && leb (m * up e / down e) (2 ^ 50))).
    let u = eqb→eq (m * up e % down e) 0 (and_l (eqb (m * up e % down e) 0) (leb (m * up e / down e) (2 ^ 50)) t) in
    let v = leb→le (m * up e / down e) (2 ^ 50) (and_r (eqb (m * up e % down e) 0) (leb (m * up e / down e) (2 ^ 50)) t) in
    over (m * up e) (m * up e / down e) (down e) v (omega arith) (omega arith))
    (λ (t : ⊥). absurd t)
  where
    over : (n q d : ℕ) → q ≤ 2 ^ 50 → n ≡ q * d → 2 ^ 50 * d < n → ⊥
    over n q d v g l = let m : q * d ≤ 2 ^ 50 * d = mul-le-mul_right d v in absurd (omega arith)

-- ---- the same, of what the code holds
pub doubled : (x : Float) → fits binary64 x ≡ true → Double x
doubled x e = subst T (sym e) tt

at_abs : (x a : Float) → a ≡ absolute x → le a TwoTo50 ≡ true → le (absolute x) TwoTo50 ≡ true
at_abs x a e h = sym (ap (λ (y : Float). le y TwoTo50) e) ∙ h

pub ranged : (x a : Float) → a ≡ absolute x → le a TwoTo50 ≡ true → Ranged a
ranged x a e h = subst Ranged (sym e) (in_range x (at_abs x a e h))

pub tested : (x a b : Float) (n : ℕ) → a ≡ absolute x → n ≡ to_unsigned 64 a → b ≡ of_int binary64 (pos n) → le a TwoTo50 ≡ true → eq b a ≡ is_whole_time x
tested x a b n e f g h =
    let k : n ≡ to_unsigned 64 (absolute x) = f ∙ ap (to_unsigned 64) e in
    ap (λ (y : Float). eq y a) (g ∙ ap (λ (i : ℕ). of_int binary64 (pos i)) k) ∙ ap (eq (of_int binary64 (pos (to_unsigned 64 (absolute x))))) e ∙ test_is x (at_abs x a e h)

pub too_large : (x a : Float) → a ≡ absolute x → le a TwoTo50 ≡ false → false ≡ is_whole_time x
too_large x a e h = sym (beyond x (sym (ap (λ (y : Float). le y TwoTo50) e) ∙ h))

-- ---- of a whole number
whole_near : (x : Float) → is_whole_time x ≡ true → le (absolute x) TwoTo50 ≡ true
whole_near x h = go (le (absolute x) TwoTo50) refl
  where
    go : (b : Bool) → le (absolute x) TwoTo50 ≡ b → b ≡ true
    go true e = refl
    go false e = absurd (true≢false (sym h ∙ beyond x e))

pub whole_size : (x a : Float) (n : ℕ) → is_whole_time x ≡ true → a ≡ absolute x → n ≡ to_unsigned 64 a → n ≡ nat_abs (whole_of x)
whole_size x a n h e f = f ∙ ap (to_unsigned 64) e ∙ part_is x (whole_near x h)

pub whole_ranged : (x a : Float) → is_whole_time x ≡ true → a ≡ absolute x → Ranged a
whole_ranged x a h e = ranged x a e (ap (λ (y : Float). le y TwoTo50) e ∙ whole_near x h)
