-- At s = 0 every term of the curve's acceleration but the first is a zero.
use Prim.Native.Nat.{ℕ, ◌+◌}
use mathlib.Core.Path.{◌≡◌, refl, sym, ap, ◌∙◌, subst}
use mathlib.Core.Bool.{Bool, true, false}
use lib.IntN.{pos}
use lib.Ieee.{Float, nan, binary64, round, neg, add, sub, mul, div, eq, of_int, fits}
use Rattle.double.proofs.Zeros.{Zero, zero_is}
use Rattle.double.proofs.Nans.{add_nan}
use Rattle.triple.specs.declared.Sample.{Sample}
use Rattle.triple.specs.Arithmetic.{nought, plus, minus, times, over}
use Rattle.triple.specs.Finite.{is_finite}
use Rattle.triple.specs.Doubles.{Double}
use Rattle.triple.proofs.Zeros.{zero_finite, product, sum_zero, over_zero, zero_over_zero, nothing_left}
use Rattle.quintic.specs.Quintic.{delta1, delta2, delta3, curve_of, acceleration_on, quintic_hermite}
use Rattle.intervals.specs.Table.{sample_of, time_of}
use Rattle.dense.specs.Interpolation.{value_at}
use Rattle.sentences.specs.Sentences.{time_to, share_at, square_of, Again, AgainEach, Smooth, AtShareZero, AtTinyTime, AtOwnTime, AtSampleAgain, StarredIsSmooth}
use Rattle.sentences.proofs.Strict.{clash}
use Rattle.sentences.proofs.Zeros.{second_of_difference, second_of_product, plus_zero}
use Rattle.sentences.proofs.Inner.{starts_there}

-- the whole number n, as the curve has it
abbrev whole : ℕ → Float
whole n = of_int binary64 (pos n)

-- what is divided by h·h
abbrev bent_by : Float → Float → Float → Float → Float
bent_by c3 c4 c5 s =
    let s2 = mul binary64 s s in
    let s3 = mul binary64 s2 s in
    add binary64 (add binary64 (mul binary64 c3 (mul binary64 (whole 6) s)) (mul binary64 c4 (mul binary64 (whole 12) s2))) (mul binary64 c5 (mul binary64 (whole 20) s3))

-- ---- one component
module _ (c3 c4 c5 s hh : Float) (still : eq s nought ≡ true) (f3 : is_finite c3 ≡ true) (f4 : is_finite c4 ≡ true) (f5 : is_finite c5 ≡ true) where
  s2 : eq (mul binary64 s s) nought ≡ true
  s2 = zero_is _ (product s s (zero_finite s still) still)

  s3 : eq (mul binary64 (mul binary64 s s) s) nought ≡ true
  s3 = zero_is _ (product (mul binary64 s s) s (zero_finite _ s2) still)

  -- a coefficient times a whole number times a power of s
  term : (c : Float) (n : ℕ) (power : Float) → is_finite c ≡ true → is_finite (whole n) ≡ true → eq power nought ≡ true → Zero (mul binary64 c (mul binary64 (whole n) power))
  term c n power f w z = product c (mul binary64 (whole n) power) f (zero_is _ (product (whole n) power w z))

  -- what is divided
  bent : Zero (bent_by c3 c4 c5 s)
  unfolding is_finite of_int round
  bent = sum_zero _ _ (sum_zero _ _ (term c3 6 s f3 refl still) (term c4 12 _ f4 refl s2)) (term c5 20 _ f5 refl s3)

  component : (a : Float) → Double a → is_finite hh ≡ true → eq hh nought ≡ false → Again a (add binary64 a (div binary64 (bent_by c3 c4 c5 s) hh))
  component a f g apart = let (t, p) = over_zero _ hh bent g apart in subst (λ (z : Float). Again a (add binary64 a z)) (sym p) (plus_zero a t f)

  lost : (a : Float) → eq hh nought ≡ true → add binary64 a (div binary64 (bent_by c3 c4 c5 s) hh) ≡ nan
  lost a none = ap (add binary64 a) (zero_over_zero _ hh bent none) ∙ add_nan a

-- ---- the curve between two samples
module _ (from to : Sample) (k : Smooth from to) where
  abbrev h : Float
  h = time_to from to

  hh_finite : is_finite (square_of from to) ≡ true
  unfolding curve_of delta3 minus times
  hh_finite = second_of_product (sub binary64 to.a.x from.a.x) _ (second_of_difference _ _ k.c4.x)

  h_finite : is_finite h ≡ true
  h_finite = second_of_product h h hh_finite

  h_apart : eq (square_of from to) nought ≡ false → eq h nought ≡ false
  h_apart apart = by (eq h nought) refl
    where
      by : (b : Bool) → eq h nought ≡ b → eq h nought ≡ false
      by false e = e
      by true e = clash (sym apart ∙ zero_is _ (product h h h_finite e))

  share_zero : eq (square_of from to) nought ≡ false → eq (share_at from to from.t) nought ≡ true
  share_zero apart = zero_is _ (over_zero _ h (nothing_left from.t (second_of_difference to.t from.t h_finite)) h_finite (h_apart apart))

pub at_share_zero : AtShareZero
unfolding quintic_hermite acceleration_on plus times over
at_share_zero from to t d k apart still =
    let s = share_at from to t in
    let f = hh_finite from to k in
    record {
      x = component _ _ _ s (square_of from to) still k.c3.x k.c4.x k.c5.x from.a.x d.x f apart;
      y = component _ _ _ s (square_of from to) still k.c3.y k.c4.y k.c5.y from.a.y d.y f apart;
      z = component _ _ _ s (square_of from to) still k.c3.z k.c4.z k.c5.z from.a.z d.z f apart;
    }

pub at_tiny_time : AtTinyTime
unfolding quintic_hermite acceleration_on plus times over
at_tiny_time from to t k tiny still =
    let s = share_at from to t in
    rw (
      lost _ _ _ s (square_of from to) still k.c3.x k.c4.x k.c5.x from.a.x tiny,
      lost _ _ _ s (square_of from to) still k.c3.y k.c4.y k.c5.y from.a.y tiny,
      lost _ _ _ s (square_of from to) still k.c3.z k.c4.z k.c5.z from.a.z tiny,
    )

pub at_own_time : AtOwnTime
at_own_time from to d k apart = at_share_zero from to from.t d k apart (share_zero from to k apart)

pub at_sample_again : AtSampleAgain
unfolding value_at time_of
at_sample_again l n a more d k apart =
    subst (λ (i : ℕ). AgainEach (sample_of l n).a (value_at l i (time_of l n)).a) (sym (starts_there l n a more))
    (at_own_time (sample_of l n) (sample_of l (n + 1)) d k apart)

pub starred_is_smooth : StarredIsSmooth
unfolding curve_of delta1 delta2 delta3 plus minus times of_int round add sub mul neg eq is_finite fits
starred_is_smooth = (
  record { x = tt; y = tt; z = tt },
  record { c3 = record { x = refl; y = refl; z = refl }; c4 = record { x = refl; y = refl; z = refl }; c5 = record { x = refl; y = refl; z = refl } },
  refl,
)
