-- `is_whole_time`, `is_whole_step` and `whole_of` read an f64 as whole/specs/Whole.antt does: it is the whole number z, and z is within the bounds.
use Rattle.std.proofs.Common.{◌≡◌, ℕ, zero, suc, ◌*◌, ◌/◌, ◌%◌, ◌^◌, ◌<◌, ◌≤◌, Bool, true, false, cond, leb, ℤ, pos, negsuc, neg_ℤ, nat_abs, sym, refl, ap, ◌∙◌, div-add-mod', mul-div_cancel, arith, eq-eqb, eqb-true, le-leb, leb-true}
use native.Mathlib.Nat.{mul-mod_left}
use mathlib.Core.Bool.{false≢true}
use lib.Ieee.{Float, nan, inf, fin, up, down}
use lib.Ieee.Fits.{down_pos}
use lib.Ieee.Exact.{HasValue}
use Rattle.double.proofs.Booleans.{both}
use Rattle.triple.specs.Doubles.{Double}
use Rattle.whole.specs.Whole.{IsWhole}
use Rattle.whole.proofs.Exact.{Diff}
use Rattle.whole.proofs.Integers.{plus, less, Holds, within, wider, read, write}
use Rattle.profile.specs.Wholes.{whole_of, has_no_fraction, is_whole_time, is_whole_step, AllReadExactly}

-- ---- from the test to the number
signed : (s : Bool) (n : ℕ) → Diff s n (plus (cond s (neg_ℤ (pos n)) (pos n))) (less (cond s (neg_ℤ (pos n)) (pos n)))
signed false n = omega arith
signed true zero = refl
signed true (suc n) = omega arith

holds_at : (x : Float) → Double x → has_no_fraction x ≡ true → Holds x (whole_of x)
unfolding has_no_fraction whole_of
holds_at nan f h = absurd (false≢true h)
holds_at (inf s) f h = absurd (false≢true h)
holds_at (fin s m e) f h =
    let r = eqb-true (m * up e % down e) 0 h in
    let g = div-add-mod' (m * up e) (down e) in
    record { holds = f; sign = s; size = m * up e / down e; value = (refl, omega arith); diff = signed s (m * up e / down e) }

pub record Bounded (x : Float) (most : ℕ) : Type 0 where
  pub holds : Holds x (whole_of x)
  pub small : nat_abs (whole_of x) ≤ most

pub time_holds : (x : Float) → Double x → is_whole_time x ≡ true → Bounded x (2 ^ 50)
unfolding is_whole_time
time_holds x f h = let b = both _ _ h in record { holds = holds_at x f b.0; small = leb-true _ _ b.1 }

pub step_tests : (h : Float) → is_whole_step h ≡ true → (has_no_fraction h ≡ true) × (1 ≤ nat_abs (whole_of h)) × (nat_abs (whole_of h) ≤ 10 ^ 9)
unfolding is_whole_step
step_tests h t = let b = both _ _ t in let a = both _ _ b.0 in (a.0, leb-true _ _ a.1, leb-true _ _ b.1)

pub step_holds : (h : Float) → Double h → is_whole_step h ≡ true → Bounded h (10 ^ 9)
step_holds h f t = let b = step_tests h t in record { holds = holds_at h f b.0; small = b.2 }

-- a step is no larger than a time may be
pub step_is_time : (h : Float) → is_whole_step h ≡ true → is_whole_time h ≡ true
unfolding is_whole_time
step_is_time h t = let b = step_tests h t in let l = b.2 in let k : nat_abs (whole_of h) ≤ 2 ^ 50 = omega arith in rw b.0 (le-leb _ _ k)

-- ---- the code's tests of a step, one after the other
pub no_time : (h : Float) → is_whole_time h ≡ false → false ≡ is_whole_step h
no_time h e = go (is_whole_step h) refl
  where
    go : (b : Bool) → is_whole_step h ≡ b → false ≡ b
    go false t = refl
    go true t = absurd (false≢true (sym e ∙ step_is_time h t))

pub no_size : (h : Float) (n : ℕ) → n ≡ nat_abs (whole_of h) → n < 1 → false ≡ is_whole_step h
no_size h n e l = go (is_whole_step h) refl
  where
    go : (b : Bool) → is_whole_step h ≡ b → false ≡ b
    go false t = refl
    go true t = let k = (step_tests h t).1 in absurd (omega arith)

pub some_size : (h : Float) (n : ℕ) → is_whole_time h ≡ true → n ≡ nat_abs (whole_of h) → 1 ≤ n → leb n (10 ^ 9) ≡ is_whole_step h
unfolding is_whole_time is_whole_step
some_size h n t e l =
    let k : 1 ≤ nat_abs (whole_of h) = omega arith in
    let w : has_no_fraction h ≡ true = (both _ _ t).0 in
    rw (w, le-leb 1 (nat_abs (whole_of h)) k) (ap (λ (i : ℕ). leb i (10 ^ 9)) e)

-- ---- the number itself
written : (x : Float) (most : ℕ) → most ≤ 2 ^ 53 → Bounded x most → IsWhole x (whole_of x)
written x most l w = write (whole_of x) (wider most (2 ^ 53) (whole_of x) l (within most (whole_of x) w.small)) w.holds

-- ---- and back
number_is : (s : Bool) (n : ℕ) (z : ℤ) → Diff s n (plus z) (less z) → cond s (neg_ℤ (pos n)) (pos n) ≡ z
number_is false n (pos a) d = let e : n ≡ a = omega arith in ap pos e
number_is false n (negsuc a) d = absurd (omega arith)
number_is true n (pos a) d = let e : n ≡ 0 = omega arith in let g : a ≡ 0 = omega arith in ap (λ (i : ℕ). neg_ℤ (pos i)) e ∙ ap pos (sym g)
number_is true n (negsuc a) d = let e : n ≡ suc a = omega arith in ap (λ (i : ℕ). neg_ℤ (pos i)) e

passes : (x : Float) (z : ℤ) → Holds x z → (has_no_fraction x ≡ true) × (whole_of x ≡ z)
unfolding has_no_fraction whole_of
passes x z X = go x X.sign X.size X.value (number_is X.sign X.size z X.diff)
  where
    go : (x : Float) (s : Bool) (n : ℕ) → HasValue x s n 1 → cond s (neg_ℤ (pos n)) (pos n) ≡ z → (has_no_fraction x ≡ true) × (whole_of x ≡ z)
    go nan s n v k = elim v [ ]
    go (inf _) s n v k = elim v [ ]
    go (fin t m e) s n v k =
        let g : m * up e ≡ n * down e = (let w = v.1 in omega arith) in
        let q : m * up e / down e ≡ n = ap (λ (i : ℕ). i / down e) g ∙ mul-div_cancel n (down_pos e) in
        let r : m * up e % down e ≡ 0 = ap (λ (i : ℕ). i % down e) g ∙ mul-mod_left n (down e) in
        (eq-eqb _ _ r, ap (λ (i : ℕ). cond t (neg_ℤ (pos i)) (pos i)) q ∙ ap (λ (b : Bool). cond b (neg_ℤ (pos n)) (pos n)) v.0 ∙ k)

held : (x : Float) (z : ℤ) (most : ℕ) → most ≤ 2 ^ 53 → IsWhole x z → nat_abs z ≤ most → Holds x z
held x z most l w h = read z (wider most (2 ^ 53) z l (within most z h)) w

pub reads_exactly : AllReadExactly
unfolding is_whole_time is_whole_step
reads_exactly x f =
    record {
      time_read = λ (h : is_whole_time x ≡ true). let w = time_holds x f h in (written x (2 ^ 50) (omega arith) w, w.small);
      time_passes = λ (z : ℤ) (w : IsWhole x z) (l : nat_abs z ≤ 2 ^ 50).
          let p = passes x z (held x z (2 ^ 50) (omega arith) w l) in (rw (p.0, p.1) (le-leb _ _ l), p.1);
      step_read = λ (h : is_whole_step x ≡ true). let w = step_holds x f h in (written x (10 ^ 9) (omega arith) w, (step_tests x h).1, w.small);
      step_passes = λ (z : ℤ) (w : IsWhole x z) (m : 1 ≤ nat_abs z) (l : nat_abs z ≤ 10 ^ 9).
          let p = passes x z (held x z (10 ^ 9) (omega arith) w l) in (rw (p.0, p.1, le-leb _ _ m) (le-leb _ _ l), p.1);
    }
