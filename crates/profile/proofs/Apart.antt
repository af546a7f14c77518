-- How far two whole numbers lie apart: the difference of the floats is exact, and so is its whole part.
use Rattle.std.proofs.Common.{◌≡◌, ℕ, ◌+◌, ◌-◌, ◌*◌, ◌/◌, ◌^◌, ◌<◌, ◌≤◌, min, Bool, true, false, cond, T, ℤ, pos, ◌-ℤ◌, neg_ℤ, nat_abs, sym, refl, ap, ◌∙◌, subst, mul-div_cancel, arith, lt→ltb}
use lib.Ieee.{nan, inf, Float, fin, binary64, up, down, sub, fits, to_unsigned}
use lib.Ieee.Fits.{down_pos}
use lib.Ieee.Exact.{HasValue}
use Rattle.triple.specs.Size.{absolute}
use Rattle.triple.specs.Doubles.{Double}
use Rattle.whole.proofs.Exact.{Is, Diff, lt_whole}
use Rattle.whole.proofs.Integers.{plus, less, Holds, Within, within, wider, size_within, between, sum_parts, neg_parts, sub_int, abs_int}
use Rattle.counting.specs.Counting.{span_of}
use Rattle.profile.specs.Wholes.{whole_of, is_whole_time}
use Rattle.profile.specs.Countable.{far_apart}
use Rattle.profile.proofs.Reading.{time_holds}
use Rattle.profile.proofs.Judging.{Ranged}

-- ---- a difference within 2^51
apart : (a b : ℤ) → nat_abs a ≤ 2 ^ 50 → nat_abs b ≤ 2 ^ 50 → Within (2 ^ 51) (a -ℤ b)
apart a b v w =
    let x = within (2 ^ 50) a v in
    let y = within (2 ^ 50) b w in
    let x0 = x.0 in
    let x1 = x.1 in
    let y0 = y.0 in
    let y1 = y.1 in
    let n = neg_parts b in
    let n0 = n.0 in
    let n1 = n.1 in
    let p = sum_parts a (neg_ℤ b) in
    between (2 ^ 51) (plus a + plus (neg_ℤ b)) (less a + less (neg_ℤ b)) (a -ℤ b) p (omega arith) (omega arith)

module _ (t0 tf : Float) (f : Double t0) (g : Double tf) (h : is_whole_time t0 ≡ true) (k : is_whole_time tf ≡ true) where
  pub span_small : span_of (whole_of t0) (whole_of tf) ≤ 2 ^ 51
  unfolding span_of
  span_small = size_within (2 ^ 51) (whole_of tf -ℤ whole_of t0) (apart (whole_of tf) (whole_of t0) (time_holds tf g k).small (time_holds t0 f h).small)

  pub span_holds : Holds (sub binary64 tf t0) (whole_of tf -ℤ whole_of t0)
  span_holds =
      let l = apart (whole_of tf) (whole_of t0) (time_holds tf g k).small (time_holds t0 f h).small in
      sub_int (whole_of tf) (whole_of t0) (time_holds tf g k).holds (time_holds t0 f h).holds
      (wider (2 ^ 51) (2 ^ 53) (whole_of tf -ℤ whole_of t0) (omega arith) l)

  span_is : Is (absolute (sub binary64 tf t0)) (span_of (whole_of t0) (whole_of tf)) 0
  unfolding span_of
  span_is = abs_int (whole_of tf -ℤ whole_of t0) span_holds

-- ---- the whole part of a whole number
minus_one : Is (fin true 1 (pos 0)) 0 1
unfolding fits
minus_one = record { holds = tt; sign = true; size = 1; value = (refl, refl); diff = refl }

large : Is (fin false 1 (pos 64)) (2 ^ 64) 0
unfolding fits
large = record { holds = tt; sign = false; size = 2 ^ 64; value = (refl, refl); diff = refl }

is_ranged : {x : Float} (n : ℕ) → Is x n 0 → n < 2 ^ 64 → Ranged x
is_ranged n X h = (
  subst T (sym (lt_whole minus_one X)) (lt→ltb (0 + 0) (n + 1) (omega arith)),
  subst T (sym (lt_whole X large)) (lt→ltb (n + 0) (2 ^ 64 + 0) (omega arith)),
)

is_cut : {x : Float} (n : ℕ) → Is x n 0 → n < 2 ^ 64 → to_unsigned 64 x ≡ n
unfolding to_unsigned
is_cut {x} n X h = go x X.sign X.size X.value X.diff
  where
    cut : (m k d : ℕ) → 0 < d → m * 1 ≡ k * d → k < 2 ^ 64 → min (m / d) (2 ^ 64 - 1) ≡ k
    cut m k d p e l =
        let f : m ≡ k * d = omega arith in
        let g : m / d ≡ k = ap (λ (i : ℕ). i / d) f ∙ mul-div_cancel k p in
        omega arith

    pick : (t s : Bool) (m k d : ℕ) → t ≡ s → 0 < d → m * 1 ≡ k * d → Diff s k n 0 → cond t 0 (min (m / d) (2 ^ 64 - 1)) ≡ n
    pick t true m k d u p e f = ap (λ (b : Bool). cond b 0 (min (m / d) (2 ^ 64 - 1))) u ∙ (omega arith)
    pick t false m k d u p e f = let l : k ≡ n = omega arith in ap (λ (b : Bool). cond b 0 (min (m / d) (2 ^ 64 - 1))) u ∙ cut m k d p e (omega arith) ∙ l

    go : (x : Float) (s : Bool) (k : ℕ) → HasValue x s k 1 → Diff s k n 0 → to_unsigned 64 x ≡ n
    go nan s k v d = elim v [ ]
    go (inf _) s k v d = elim v [ ]
    go (fin t m e) s k v d = pick t s (m * up e) k (down e) v.0 (down_pos e) v.1 d

-- ---- the same, of what the code holds
module _ (t0 tf a : Float) (f : Double t0) (g : Double tf) (h : (is_whole_time t0 ≡ true) × (is_whole_time tf ≡ true)) (e : a ≡ absolute (sub binary64 tf t0)) where
  abbrev S : ℕ
  S = span_of (whole_of t0) (whole_of tf)

  small : S ≤ 2 ^ 51
  small = span_small t0 tf f g h.0 h.1

  is : Is a S 0
  is = subst (λ (y : Float). Is y S 0) (sym e) (span_is t0 tf f g h.0 h.1)

  pub span_ranged : Ranged a
  span_ranged = let l = small in is_ranged S is (omega arith)

  pub span_size : (n : ℕ) → n ≡ to_unsigned 64 a → (n ≡ S) × (n ≤ far_apart) × Double t0 × Double tf
  span_size n k = let l = small in let m : n ≡ S = k ∙ is_cut S is (omega arith) in (m, omega arith, f, g)
