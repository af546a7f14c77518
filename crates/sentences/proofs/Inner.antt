-- At a sample's own time a single time takes the interval that starts there, and a fresh batch the one that ends there.
use Prim.Native.Nat.{ℕ, zero, suc, ◌+◌, ◌-◌, ◌<◌, ◌≤◌}
use mathlib.Core.Path.{◌≡◌, sym, ap, subst, ◌∙◌}
use mathlib.Core.Bool.{Bool, true, false}
use mathlib.Core.List.{List}
use mathlib.Core.Logic.{⊎_elim}
use native.Mathlib.Omega.{arith}
use native.Mathlib.Numerals.{add-one}
use native.Mathlib.Nat.{sub-zero, eq-or-lt_of_le}
use lib.Ieee.{Float}
use borrow.Author.Tests.{le-ltb}
use Rattle.intervals.specs.Table.{count_of, time_of}
use Rattle.intervals.specs.Intervals.{is_forward, reached, first_past, held_to, is_short, walk_on, interval_of, walked_to}
use Rattle.sentences.specs.Sentences.{Apart, AtInnerSample}
use Rattle.intervals.proofs.Loops.{past_on, past_here, walk_on_lem, walk_here}
use Rattle.sentences.proofs.Strict.{short_reaches, short_fails, short_own, not_short}

-- ---- n turns of each search
module _ (f : Bool) (l : List Float) (t : Float) (m : ℕ) where
  past_run : (n : ℕ) → n ≤ m → ((i : ℕ) → i < n → reached f (time_of l i) t ≡ true) → first_past f l t m 0 ≡ first_past f l t (m - n) n
  past_run zero h r = ap (λ (k : ℕ). first_past f l t k 0) (sym (sub-zero m))
  past_run (suc n) h r =
      past_run n (omega arith) (λ i k. r i (omega arith))
      ∙ past_on f l t m n (omega arith) (r n (omega arith))
      ∙ ap (λ (k : ℕ). first_past f l t (m - k) k) (add-one n)

  walk_run : (n : ℕ) → n ≤ m → ((i : ℕ) → i < n → is_short f (time_of l (i + 1)) t ≡ true) → walk_on f l t m 0 ≡ walk_on f l t (m - n) n
  walk_run zero h r = ap (λ (k : ℕ). walk_on f l t k 0) (sym (sub-zero m))
  walk_run (suc n) h r =
      walk_run n (omega arith) (λ i k. r i (omega arith))
      ∙ walk_on_lem f l t m n (omega arith) (r n (omega arith))
      ∙ ap (λ (k : ℕ). walk_on f l t (m - k) k) (add-one n)

held : (c n : ℕ) → n + 1 < c → held_to (c - 2) (n + 1 - 1) ≡ n
unfolding held_to
held c n h = rw (le-ltb (c - 2) (n + 1 - 1) (omega arith)) (omega arith)

module _ (l : List Float) (n : ℕ) (a : Apart l n) (inner : n + 1 < count_of l) where
  up_to : (i : ℕ) → i < n + 1 → reached (is_forward l) (time_of l i) (time_of l n) ≡ true
  up_to i h =
      ⊎_elim
      (λ (e : i ≡ n). subst (λ (k : ℕ). reached (is_forward l) (time_of l k) (time_of l n) ≡ true) (sym e) (short_own (is_forward l) _ _ a.ahead))
      (λ (k : i < n). short_reaches (is_forward l) _ _ (a.behind i k))
      (eq-or-lt_of_le {n = i} {m = n} (omega arith))

  first_past_lem : first_past (is_forward l) l (time_of l n) (count_of l) 0 ≡ n + 1
  first_past_lem =
      past_run (is_forward l) l (time_of l n) (count_of l) (n + 1) (omega arith) up_to
      ∙ past_here (is_forward l) l (time_of l n) (count_of l) (n + 1) inner (short_fails (is_forward l) _ _ a.ahead)

  pub starts_there : interval_of l (time_of l n) ≡ n
  unfolding interval_of
  starts_there = ap (λ (k : ℕ). held_to (count_of l - 2) (k - 1)) first_past_lem ∙ held (count_of l) n inner

  stops : 0 < n → is_short (is_forward l) (time_of l (n - 1 + 1)) (time_of l n) ≡ false
  stops some =
      let e : n ≡ n - 1 + 1 = omega arith in
      subst (λ (k : ℕ). is_short (is_forward l) (time_of l k) (time_of l n) ≡ false) e (not_short (is_forward l) (time_of l n))

  ends_there : 0 < n → walked_to l (time_of l n) 0 ≡ n - 1
  unfolding walked_to
  ends_there some =
      ap (λ (k : ℕ). walk_on (is_forward l) l (time_of l n) k 0) (sub-zero (count_of l - 2))
      ∙ walk_run (is_forward l) l (time_of l n) (count_of l - 2) (n - 1) (omega arith) (λ i h. a.behind (i + 1) (omega arith))
      ∙ walk_here (is_forward l) l (time_of l n) (count_of l - 2) (n - 1) (omega arith) (stops some)

pub at_inner_sample : AtInnerSample
at_inner_sample l n a some inner =
    (starts_there l n a inner, (let e = ends_there l n a inner some in omega arith))
