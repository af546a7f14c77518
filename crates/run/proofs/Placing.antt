-- A sample's place, by the quotient that the code tests; and the startup's samples, stored one after the other.
use mathlib.Core.Path.{◌≡◌, refl, sym, ap, ◌∙◌}
use Prim.Native.Nat.{ℕ, ◌+◌, ◌-◌, ◌*◌, ◌/◌, ◌≤◌, ◌<◌}
use mathlib.Core.Logic.{◌⊎◌, inl, inr}
use native.Mathlib.Omega.{arith}
use mathlib.Core.Bool.{Bool, true, false, ◌&&◌, cond}
use mathlib.Core.List.{List, [], ◌∷◌}
use lib.Dec.{leb}
use lib.ListN.{length, length-set}
use lib.Ieee.{Float}
use borrow.Author.Tests.{leb-true, leb-false, le-leb, lt-leb}
use Rattle.triple.specs.declared.Triple.{Triple}
use Rattle.triple.specs.declared.Sample.{Sample}
use Rattle.triple.specs.Sampled.{sample_width}
use Rattle.startup.specs.declared.Places.{Places}
use Rattle.plan.specs.declared.Plan.{Plan}
use Rattle.run.specs.Samples.{Room, tens, numbers_of, is_placed, has_room, written, put, put_all, grid_sample, start_samples, kept_sample, kept_point, kept_points}
use Rattle.run.proofs.Counts.{both}

no_and : (d : Bool) {e : Bool} → e ≡ false → d && e ≡ false
no_and true h = h
no_and false h = refl

-- ---- the tests that the code makes
module _ (from n m room : ℕ) where
  pub placed_is : is_placed from n m room ≡ true → (from ≤ n) × (sample_width * (n - from + m) ≤ room)
  unfolding is_placed
  placed_is h = let b = both (leb from n) (leb (sample_width * (n - from + m)) room) h in (leb-true _ _ b.0, leb-true _ _ b.1)

  pub not_placed : (n < from) ⊎ ((from ≤ n) × (room / sample_width < m)) → false ≡ is_placed from n m room
  unfolding is_placed
  not_placed (inl h) = rw (lt-leb from n h)
  not_placed (inr h) = sym (no_and (leb from n) (lt-leb (sample_width * (n - from + m)) room (omega (arith, h.1))))

  pub by_quotient : from ≤ n → m ≤ room / sample_width → leb (n - from) (room / sample_width - m) ≡ is_placed from n m room
  unfolding is_placed
  by_quotient h k = rw (le-leb from n h) (go (leb (n - from) (room / sample_width - m)) refl)
    where
      go : (d : Bool) → leb (n - from) (room / sample_width - m) ≡ d → d ≡ leb (sample_width * (n - from + m)) room
      go true e = let f : n - from ≤ room / sample_width - m = leb-true _ _ e in sym (le-leb (sample_width * (n - from + m)) room (omega (arith, f, k)))
      go false e = let f : room / sample_width - m < n - from = leb-false _ _ e in sym (lt-leb (sample_width * (n - from + m)) room (omega (arith, f, k)))

module _ (from n : ℕ) (l : List Float) where
  pub fits_here : from ≤ n → n - from < length l / sample_width → is_placed from n 1 (length l) ≡ true
  unfolding is_placed
  fits_here h k = rw (le-leb from n h, le-leb (sample_width * (n - from + 1)) (length l) (omega (arith, k)))

-- ---- a room keeps its length, and so its places
pub length_written : (i : ℕ) (s : Sample) (l : List Float) → length (written i s l) ≡ length l
unfolding written
length_written i s l = simp length-set

pub length_put : (ss : List Sample) (n from : ℕ) (l : List Float) → length (numbers_of (put_all n ss (tens from l))) ≡ length l
unfolding put_all put numbers_of
length_put [] n from l = refl
length_put (s ∷ ss) n from l = length_put ss (n + 1) from (written (sample_width * (n - from)) s l) ∙ length_written (sample_width * (n - from)) s l

pub same_room : (ss : List Sample) (n from : ℕ) (l : List Float) → tens from (numbers_of (put_all n ss (tens from l))) ≡ put_all n ss (tens from l)
unfolding put_all put numbers_of
same_room [] n from l = refl
same_room (s ∷ ss) n from l = same_room ss (n + 1) from (written (sample_width * (n - from)) s l)

pub room_put_all : (n m i : ℕ) (ss : List Sample) (out : Room) → has_room n m (put_all i ss out) ≡ has_room n m out
unfolding has_room
room_put_all n m i ss (tens from l) = ap (has_room n m) (sym (same_room ss i from l)) ∙ ap (is_placed from n m) (length_put ss i from l)

-- ---- where some samples have their place, so have those among them
pub room_within : (n m i k : ℕ) (out : Room) → n ≤ i → i + k ≤ n + m → has_room n m out ≡ true → has_room i k out ≡ true
unfolding has_room is_placed
room_within n m i k (tens from l) h g e =
    let p = placed_is from n m (length l) e in
    let f = p.0 in
    let t = p.1 in
    rw (le-leb from i (omega arith), le-leb (sample_width * (i - from + k)) (length l) (omega arith))

-- ---- the startup's five samples
module _ (from : ℕ) (p : Plan) (x : Places) (a : List Triple) where
  abbrev with_point : ℕ → List Float → List Float
  with_point i l = written (sample_width * (i - 4 - from)) (grid_sample p x a i) l

  one_point : (i : ℕ) (o l : List Float) → 4 ≤ i → i ≤ 8 → o ≡ l → from ≤ 0 → sample_width * 5 ≤ length l
      → (kept_point true from p x a i o ≡ with_point i l) × (sample_width * 5 ≤ length (with_point i l))
  unfolding kept_point kept_sample
  one_point i o l g h e z r =
      let f : is_placed from (i - 4) 1 (length l) ≡ true = fits_here from (i - 4) l (omega arith) (omega arith) in
      (ap (λ (w : List Float). kept_point true from p x a i w) e ∙ go (is_placed from (i - 4) 1 (length l)) f, omega (arith, length_written (sample_width * (i - 4 - from)) (grid_sample p x a i) l))
    where
      go : (d : Bool) → d ≡ true → cond d (with_point i l) l ≡ with_point i l
      go d e = rw e

  pub points_put : (l : List Float) → has_room 0 5 (tens from l) ≡ true → tens from (kept_points true from p x a l) ≡ put_all 0 (start_samples p x a) (tens from l)
  unfolding kept_points put_all put start_samples has_room
  points_put l r =
      let b = placed_is from 0 5 (length l) r in
      let z = b.0 in
      let h4 = one_point 4 l l (omega arith) (omega arith) refl z (omega (arith, b.1)) in
      let h5 = one_point 5 _ _ (omega arith) (omega arith) h4.0 z h4.1 in
      let h6 = one_point 6 _ _ (omega arith) (omega arith) h5.0 z h5.1 in
      let h7 = one_point 7 _ _ (omega arith) (omega arith) h6.0 z h6.1 in
      ap (λ (o : List Float). tens from o) (one_point 8 _ _ (omega arith) (omega arith) h7.0 z h7.1).0

  pub points_off : (l : List Float) → kept_points false from p x a l ≡ l
  unfolding kept_points kept_point kept_sample
  points_off l = refl
