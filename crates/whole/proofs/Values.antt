-- What an operation makes of two floats that are whole numbers, of signs s and t and sizes a and b.
use mathlib.Core.Path.{◌≡◌, sym, ap, ◌∙◌, subst}
use Prim.Native.Nat.{ℕ, ◌*◌, ◌<◌}
use native.Mathlib.Nat.{lt_irrefl, mul-one, mul_comm, mul_assoc, mul-pos, zero-mul, mul-mul-mul_comm}
use native.Mathlib.Omega.{arith}
use mathlib.Core.Bool.{Bool, not, cond}
use lib.IntN.{ℤ}
use lib.Dec.{T, eqb, eqb→eq, not_T}
use lib.Ieee.{Float, nan, inf, fin, Format, up, down, unlike, round, sum, below, level, add, mul, div, lt, eq}
use lib.Ieee.Fits.{down_pos}
use lib.Ieee.Exact.{HasValue}
use lib.Ieee.Scale.{round_same}
use lib.Ieee.Bits.{cond_no}
use Rattle.whole.proofs.Scale.{one_pos, sum_same, level_scale, below_scale}

-- ---- both over one denominator
left : (m : ℕ) (e d : ℤ) (a : ℕ) → m * up e * 1 ≡ a * down e → m * up e * down d ≡ a * (down e * down d)
left m e d a h = ap (λ (x : ℕ). x * down d) (sym (mul-one (m * up e)) ∙ h) ∙ mul_assoc a (down e) (down d)

right : (n : ℕ) (e d : ℤ) (b : ℕ) → n * up d * 1 ≡ b * down d → n * up d * down e ≡ b * (down e * down d)
right n e d b h = left n d e b h ∙ ap (λ (x : ℕ). b * x) (mul_comm (down d) (down e))

pub add_is : (f : Format) (x y : Float) (s : Bool) (a : ℕ) (t : Bool) (b : ℕ) → HasValue x s a 1 → HasValue y t b 1 → add f x y ≡ sum f s a t b 1
unfolding add
add_is f nan y s a t b h k = elim h [ ]
add_is f (inf _) y s a t b h k = elim h [ ]
add_is f (fin u m e) nan s a t b h k = elim k [ ]
add_is f (fin u m e) (inf _) s a t b h k = elim k [ ]
add_is f (fin u m e) (fin v n d) s a t b h k =
    ap (λ (z : Bool). sum f z (m * up e * down d) v (n * up d * down e) (down e * down d)) h.0
    ∙ ap (λ (z : Bool). sum f s (m * up e * down d) z (n * up d * down e) (down e * down d)) k.0
    ∙ ap (λ (z : ℕ). sum f s z t (n * up d * down e) (down e * down d)) (left m e d a h.1)
    ∙ ap (λ (z : ℕ). sum f s (a * (down e * down d)) t z (down e * down d)) (right n e d b k.1)
    ∙ sum_same f s a t b (down e * down d) (mul-pos (down_pos e) (down_pos d))

pub mul_is : (f : Format) (x y : Float) (s : Bool) (a : ℕ) (t : Bool) (b : ℕ) → HasValue x s a 1 → HasValue y t b 1 → mul f x y ≡ round f (unlike s t) (a * b) 1
unfolding mul
mul_is f nan y s a t b h k = elim h [ ]
mul_is f (inf _) y s a t b h k = elim h [ ]
mul_is f (fin u m e) nan s a t b h k = elim k [ ]
mul_is f (fin u m e) (inf _) s a t b h k = elim k [ ]
mul_is f (fin u m e) (fin v n d) s a t b h k =
    ap (λ (z : Bool). round f (unlike z v) (m * up e * (n * up d)) (down e * down d)) h.0
    ∙ ap (λ (z : Bool). round f (unlike s z) (m * up e * (n * up d)) (down e * down d)) k.0
    ∙ round_same f (unlike s t) (m * up e * (n * up d)) (down e * down d) (a * b) 1 (mul-pos (down_pos e) (down_pos d)) one_pos
    (mul-one (m * up e * (n * up d))
    ∙ ap (λ (z : ℕ). z * (n * up d)) (sym (mul-one (m * up e)) ∙ h.1)
    ∙ ap (λ (z : ℕ). a * down e * z) (sym (mul-one (n * up d)) ∙ k.1)
    ∙ mul-mul-mul_comm a (down e) b (down d))

size_pos : (n : ℕ) (d : ℤ) (b : ℕ) → n * up d * 1 ≡ b * down d → 0 < b → T (not (eqb n 0))
size_pos n d b h B = not_T (eqb n 0) (λ (t : T (eqb n 0)). lt_irrefl 0 (subst (λ (z : ℕ). 0 < z) (sym h ∙ ap (λ (z : ℕ). z * up d * 1) (eqb→eq n 0 t) ∙ ap (λ (z : ℕ). z * 1) (zero-mul (up d))) (mul-pos B (down_pos d))))

pub div_is : (f : Format) (x y : Float) (s : Bool) (a : ℕ) (t : Bool) (b : ℕ) → HasValue x s a 1 → HasValue y t b 1 → 0 < b → div f x y ≡ round f (unlike s t) a b
unfolding div
div_is f nan y s a t b h k B = elim h [ ]
div_is f (inf _) y s a t b h k B = elim h [ ]
div_is f (fin u m e) nan s a t b h k B = elim k [ ]
div_is f (fin u m e) (inf _) s a t b h k B = elim k [ ]
div_is f (fin u m e) (fin v n d) s a t b h k B =
    cond_no (eqb n 0) (cond (eqb m 0) nan (inf (unlike u v))) (round f (unlike u v) (m * up e * down d) (n * up d * down e)) (size_pos n d b k.1 B)
    ∙ ap (λ (z : Bool). round f (unlike z v) (m * up e * down d) (n * up d * down e)) h.0
    ∙ ap (λ (z : Bool). round f (unlike s z) (m * up e * down d) (n * up d * down e)) k.0
    ∙ ap (λ (z : ℕ). round f (unlike s t) z (n * up d * down e)) (left m e d a h.1)
    ∙ ap (λ (z : ℕ). round f (unlike s t) (a * (down e * down d)) z) (right n e d b k.1)
    ∙ round_same f (unlike s t) (a * (down e * down d)) (b * (down e * down d)) a b (mul-pos B (mul-pos (down_pos e) (down_pos d))) B (omega arith)

pub lt_is : (x y : Float) (s : Bool) (a : ℕ) (t : Bool) (b : ℕ) → HasValue x s a 1 → HasValue y t b 1 → lt x y ≡ below s a t b
unfolding lt
lt_is nan y s a t b h k = elim h [ ]
lt_is (inf _) y s a t b h k = elim h [ ]
lt_is (fin u m e) nan s a t b h k = elim k [ ]
lt_is (fin u m e) (inf _) s a t b h k = elim k [ ]
lt_is (fin u m e) (fin v n d) s a t b h k =
    ap (λ (z : Bool). below z (m * up e * down d) v (n * up d * down e)) h.0
    ∙ ap (λ (z : Bool). below s (m * up e * down d) z (n * up d * down e)) k.0
    ∙ ap (λ (z : ℕ). below s z t (n * up d * down e)) (left m e d a h.1)
    ∙ ap (λ (z : ℕ). below s (a * (down e * down d)) t z) (right n e d b k.1)
    ∙ below_scale s a t b (down e * down d) (mul-pos (down_pos e) (down_pos d))

pub eq_is : (x y : Float) (s : Bool) (a : ℕ) (t : Bool) (b : ℕ) → HasValue x s a 1 → HasValue y t b 1 → eq x y ≡ level s a t b
unfolding eq
eq_is nan y s a t b h k = elim h [ ]
eq_is (inf _) y s a t b h k = elim h [ ]
eq_is (fin u m e) nan s a t b h k = elim k [ ]
eq_is (fin u m e) (inf _) s a t b h k = elim k [ ]
eq_is (fin u m e) (fin v n d) s a t b h k =
    ap (λ (z : Bool). level z (m * up e * down d) v (n * up d * down e)) h.0
    ∙ ap (λ (z : Bool). level s (m * up e * down d) z (n * up d * down e)) k.0
    ∙ ap (λ (z : ℕ). level s z t (n * up d * down e)) (left m e d a h.1)
    ∙ ap (λ (z : ℕ). level s (a * (down e * down d)) t z) (right n e d b k.1)
    ∙ level_scale s a t b (down e * down d) (mul-pos (down_pos e) (down_pos d))
