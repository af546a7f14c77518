-- A run that goes nowhere is refused: no span, or no step.
use mathlib.Core.Path.{◌≡◌, refl, sym, ap, ◌∙◌, subst}
use Prim.Native.Nat.{ℕ, ◌+◌, ◌*◌, ◌<◌}
use native.Mathlib.Nat.{mul-pos}
use native.Mathlib.Omega.{arith}
use mathlib.Core.Bool.{Bool, true, false, not, ◌&&◌, ◌||◌, beq, false≢true}
use lib.IntN.{pos}
use lib.Dec.{eqb}
use lib.Ieee.{Float, nan, inf, fin, binary64, up, down, unlike, level, round, sum, neg, add, sub, mul, div, lt, eq, of_int}
use lib.Ieee.Fits.{down_pos}
use borrow.Author.Tests.{eqb-true}
use Rattle.double.proofs.Zeros.{Zero, rounded, zero_is, zero_by}
use Rattle.triple.specs.Arithmetic.{nought}
use Rattle.triple.specs.Size.{absolute}
use Rattle.triple.specs.Finite.{is_finite}
use Rattle.triple.proofs.Finite.{cancel}
use Rattle.triple.proofs.Zeros.{over_zero}
use Rattle.plan.specs.declared.Plan.{Plan}
use Rattle.plan.specs.Limits.{are_within_limits}
use Rattle.plan.specs.Plan.{direction_of, plan_of, is_too_near}
use Rattle.plan.specs.Lawful.{is_dated, is_lawful}
use Rattle.plan.proofs.Dates.{way_is}
use Rattle.run.proofs.Counts.{both}
use Rattle.counting.specs.Starred.{NoSpan, NoStep}
use Rattle.counting.proofs.Starts.{near_start}

-- ---- what a lawful plan's start and step are
dated : (p : Plan) → is_lawful p ≡ true → is_dated p ≡ true
unfolding is_lawful
dated p l = (both (are_within_limits p.settings) (is_dated p) l).1

finite_start : (p : Plan) → is_lawful p ≡ true → is_finite p.t0 ≡ true
unfolding is_dated
finite_start p l =
    (both (is_finite p.t0) (is_finite p.tf)
    (both (is_finite p.t0 && is_finite p.tf) (is_finite p.settings.h) (both (is_finite p.t0 && is_finite p.tf && is_finite p.settings.h) (is_finite p.h) (dated p l)).0).0).0

finite_step : (p : Plan) → is_lawful p ≡ true → is_finite p.h ≡ true
unfolding is_dated
finite_step p l = (both (is_finite p.t0 && is_finite p.tf && is_finite p.settings.h) (is_finite p.h) (dated p l)).1

-- ---- the difference of two equal numbers is a zero, of one sign or the other
-- -0 + -0, and 0 + 0
still : (s : Bool) (a c : ℕ) → 0 < c → a ≡ 0 → Zero (sum binary64 s a s a c)
unfolding sum
still true a c h n = rounded true (a + a) c (omega (arith, n)) h
still false a c h n = rounded false (a + a) c (omega (arith, n)) h

-- ±b less ±a, where they are equal
equal_less : (s t : Bool) (a b c : ℕ) → 0 < c → level s a t b ≡ true → Zero (sum binary64 t b (not s) a c)
equal_less s t a b c h e =
    let l = both (eqb a b) (beq s t || eqb a 0) e in
    subst (λ (n : ℕ). Zero (sum binary64 t n (not s) a c)) (eqb-true a b l.0) (go s t l.1)
  where
    go : (s t : Bool) → beq s t || eqb a 0 ≡ true → Zero (sum binary64 t a (not s) a c)
    go true true f = (false, cancel true a c h)
    go false false f = (false, cancel false a c h)
    go true false f = still false a c h (eqb-true a 0 f)
    go false true f = still true a c h (eqb-true a 0 f)

gone : (x y : Float) → is_finite x ≡ true → eq x y ≡ true → Zero (sub binary64 y x)
unfolding is_finite eq sub add neg
gone nan y f e = absurd (false≢true f)
gone (inf s) y f e = absurd (false≢true f)
gone (fin s m e) nan f q = absurd (false≢true q)
gone (fin s m e) (inf t) f q = absurd (false≢true q)
gone (fin s m e) (fin t n d) f q = equal_less s t (m * up e * down d) (n * up d * down e) (down d * down e) (mul-pos (down_pos d) (down_pos e)) q

-- ---- a zero over h is below 8, for a finite h that is not zero
eight_is : of_int binary64 (pos 8) ≡ fin false 1 (pos 3)
unfolding of_int round
eight_is = refl

small : (s : Bool) → lt (absolute (fin s 0 (pos 0))) (of_int binary64 (pos 8)) ≡ true
unfolding lt absolute
small s = ap (lt (fin false 0 (pos 0))) eight_is

no_quotient : (s : Bool) (h : Float) → is_finite h ≡ true → eq h nought ≡ false → lt (absolute (div binary64 (fin s 0 (pos 0)) h)) (of_int binary64 (pos 8)) ≡ true
no_quotient s h f z =
    let (t, p) = over_zero (fin s 0 (pos 0)) h (s, refl) f z in
    ap (λ (x : Float). lt (absolute x) (of_int binary64 (pos 8))) p ∙ small t

-- ---- no span
still_near : (p : Plan) → is_lawful p ≡ true → eq p.t0 p.tf ≡ true → is_too_near p ≡ true
unfolding is_too_near
still_near p l q =
    let g = gone p.t0 p.tf (finite_start p l) q in
    ap (λ (x : Float). eq p.h nought || lt (absolute (div binary64 x p.h)) (of_int binary64 (pos 8))) g.1 ∙ go g.0 (eq p.h nought) refl
  where
    go : (s b : Bool) → eq p.h nought ≡ b → b || lt (absolute (div binary64 (fin s 0 (pos 0)) p.h)) (of_int binary64 (pos 8)) ≡ true
    go s true e = refl
    go s false e = no_quotient s p.h (finite_step p l) e

pub no_span : NoSpan
unfolding plan_of
no_span s t0 tf r0 v0 l q = near_start s t0 tf r0 v0 l (still_near (plan_of s t0 tf) l q)

-- ---- no step
zero_step : (x : Float) (t : Bool) → eq x nought ≡ true → eq (mul binary64 (absolute x) (fin t 1 (pos 0))) nought ≡ true
unfolding absolute mul
zero_step x t h =
    let (s, (e, p)) = zero_by x h in
    subst (λ (y : Float). eq (mul binary64 (absolute y) (fin t 1 (pos 0))) nought ≡ true) (sym p)
    (zero_is _ (rounded (unlike false t) (0 * up e * 1) (down e * 1) (omega arith) (mul-pos (down_pos e) (omega arith))))

pub no_step : NoStep
unfolding is_too_near plan_of
no_step s t0 tf r0 v0 l z =
    let w = way_is t0 tf in
    near_start s t0 tf r0 v0 l
    (ap (λ (b : Bool). b || lt (absolute (div binary64 (sub binary64 tf t0) (mul binary64 (absolute s.h) (direction_of t0 tf)))) (of_int binary64 (pos 8)))
    (subst (λ (x : Float). eq (mul binary64 (absolute s.h) x) nought ≡ true) (sym w.1) (zero_step s.h w.0 z)))
