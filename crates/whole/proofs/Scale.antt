-- A sum or a comparison of two fractions does not change when both are written over a common denominator C.
use mathlib.Core.Path.{◌≡◌, refl, sym, ap, ◌∙◌}
use Prim.Native.Nat.{ℕ, ◌+◌, ◌-◌, ◌*◌, ◌≤◌, ◌<◌}
use native.Mathlib.Nat.{mul-one, mul_comm, zero-mul, mul-lt-mul_of_pos_right, mul-le-mul_right, not-le_of_lt, mul-sub, add-mul, eq_of_mul-eq-mul_right}
use native.Mathlib.Omega.{arith}
use mathlib.Core.Bool.{Bool, true, false, not, ◌&&◌, ◌||◌, cond, beq}
use lib.Dec.{T, ltb, eqb, lt→ltb, ltb→lt, nltb→le, eqb→eq, lit<}
use lib.Ieee.{Float, Format, round, sum, below, level}
use lib.Ieee.Fits.{eq→eqb}
use lib.Ieee.Scale.{round_same}

-- ---- tests
pub bool_ext : (x y : Bool) → (T x → T y) → (T y → T x) → x ≡ y
bool_ext true true f g = refl
bool_ext true false f g = absurd (f tt)
bool_ext false true f g = absurd (g tt)
bool_ext false false f g = refl

pub one_pos : 0 < 1
one_pos = lit< tt

-- ---- a common denominator C changes nothing
pub lt_scale : (a b C : ℕ) → 0 < C → ltb (a * C) (b * C) ≡ ltb a b
lt_scale a b C h = bool_ext (ltb (a * C) (b * C)) (ltb a b)
    (λ (t : T (ltb (a * C) (b * C))). go (ltb a b) (nltb→le a b) (ltb→lt (a * C) (b * C) t))
    (λ (t : T (ltb a b)). lt→ltb (a * C) (b * C) (mul-lt-mul_of_pos_right (ltb→lt a b t) h))
  where
    go : (y : Bool) → (T (not y) → b ≤ a) → a * C < b * C → T y
    go true f l = tt
    go false f l = absurd (not-le_of_lt l (mul-le-mul_right C (f tt)))

sub_scale : (a b C : ℕ) → (a * C - b * C) * 1 ≡ (a - b) * C
sub_scale a b C = mul-one (a * C - b * C) ∙ ap (λ (x : ℕ). x - b * C) (mul_comm a C) ∙ ap (λ (x : ℕ). C * a - x) (mul_comm b C) ∙ sym (mul-sub C a b) ∙ mul_comm C (a - b)

pub sum_same : (f : Format) (s : Bool) (a : ℕ) (t : Bool) (b C : ℕ) → 0 < C → sum f s (a * C) t (b * C) C ≡ sum f s a t b 1
unfolding sum
sum_same f false a false b C h = round_same f false (a * C + b * C) C (a + b) 1 h one_pos (omega arith)
sum_same f true a true b C h = round_same f true (a * C + b * C) C (a + b) 1 h one_pos (omega arith)
sum_same f false a true b C h =
    ap (λ (c : Bool). cond c (round f true (b * C - a * C) C) (round f false (a * C - b * C) C)) (lt_scale a b C h)
    ∙ ap (λ (z : Float). cond (ltb a b) z (round f false (a * C - b * C) C)) (round_same f true (b * C - a * C) C (b - a) 1 h one_pos (sub_scale b a C))
    ∙ ap (λ (z : Float). cond (ltb a b) (round f true (b - a) 1) z) (round_same f false (a * C - b * C) C (a - b) 1 h one_pos (sub_scale a b C))
sum_same f true a false b C h =
    ap (λ (c : Bool). cond c (round f false (b * C - a * C) C) (round f (ltb (b * C) (a * C)) (a * C - b * C) C)) (lt_scale a b C h)
    ∙ ap (λ (c : Bool). cond (ltb a b) (round f false (b * C - a * C) C) (round f c (a * C - b * C) C)) (lt_scale b a C h)
    ∙ ap (λ (z : Float). cond (ltb a b) z (round f (ltb b a) (a * C - b * C) C)) (round_same f false (b * C - a * C) C (b - a) 1 h one_pos (sub_scale b a C))
    ∙ ap (λ (z : Float). cond (ltb a b) (round f false (b - a) 1) z) (round_same f (ltb b a) (a * C - b * C) C (a - b) 1 h one_pos (sub_scale a b C))

pub level_scale : (s : Bool) (a : ℕ) (t : Bool) (b C : ℕ) → 0 < C → level s (a * C) t (b * C) ≡ level s a t b
level_scale s a t b C h =
    ap (λ (c : Bool). c && (beq s t || eqb (a * C) 0)) (eq_scale a b)
    ∙ ap (λ (c : Bool). eqb a b && (beq s t || c)) (ap (λ (x : ℕ). eqb (a * C) x) (sym (zero-mul C)) ∙ eq_scale a 0)
  where
    eq_scale : (a b : ℕ) → eqb (a * C) (b * C) ≡ eqb a b
    eq_scale a b = bool_ext (eqb (a * C) (b * C)) (eqb a b)
        (λ (t : T (eqb (a * C) (b * C))). eq→eqb (eq_of_mul-eq-mul_right C h a b (eqb→eq (a * C) (b * C) t)))
        (λ (t : T (eqb a b)). eq→eqb (ap (λ (x : ℕ). x * C) (eqb→eq a b t)))

pub below_scale : (s : Bool) (a : ℕ) (t : Bool) (b C : ℕ) → 0 < C → below s (a * C) t (b * C) ≡ below s a t b
below_scale false a false b C h = lt_scale a b C h
below_scale false a true b C h = refl
below_scale true a false b C h = ap (λ (x : ℕ). ltb 0 x) (sym (add-mul a b C)) ∙ ap (λ (x : ℕ). ltb x ((a + b) * C)) (sym (zero-mul C)) ∙ lt_scale 0 (a + b) C h
below_scale true a true b C h = lt_scale b a C h
