-- The fate of a plan of whole numbers: the clock arrives after K steps exactly, or a tail makes the K-th.
use mathlib.Core.Path.{◌≡◌, sym, ap, ◌∙◌, subst}
use mathlib.Core.Logic.{◌⊎◌, inl, inr}
use Prim.Native.Nat.{ℕ, zero, suc, ◌+◌, ◌-◌, ◌*◌, ◌≤◌, ◌<◌}
use native.Mathlib.Nat.{mul-le-mul_right, le_of_mul-le-mul_right, lt_of_mul-lt-mul_right, div-add-mod', mod-lt}
use native.Mathlib.Omega.{arith}
use mathlib.Core.Bool.{Bool, true, false, not, cond}
use lib.Dec.{T, ltb, ltb→lt, nltb→le}
use lib.Ieee.{Float, binary64, add}
use borrow.Author.Tests.{le-ltb}
use Rattle.plan.specs.declared.Plan.{Plan}
use Rattle.conditions.specs.Conditions.{is_tail}
use Rattle.whole.proofs.Along.{Along, move_along}
use Rattle.counting.specs.Clockwork.{Fate, arrives, tails, runs_out, fate_from, fate_of}
use Rattle.counting.specs.Counting.{steps_for, Least}
use Rattle.counting.proofs.Spans.{Span, goes_on, is_short_lem, step_on_lem, point_on_lem}

-- (K - 1) H < S ≤ K H
pub record Reach (S H K : ℕ) : Type 0 where
  pub reaches : S ≤ K * H
  pub closely : K * H < S + H

pub steps_reach : (S H : ℕ) → 0 < H → Reach S H (steps_for S H)
unfolding steps_for
steps_reach S H h = let e = div-add-mod' (S + (H - 1)) H in let l = mod-lt (S + (H - 1)) h in record { reaches = omega arith; closely = omega arith }

-- K-as-H ≥ S, and no smaller number does
pub steps_least : (S H : ℕ) → 0 < H → Least S H (steps_for S H)
steps_least S H h =
    let r = steps_reach S H h in
    record {
      reaches = r.reaches;
      least = λ (k : ℕ) (l : S ≤ k * H).
          let c = r.closely in
          let u : steps_for S H * H < (k + 1) * H = omega arith in
          let v : steps_for S H < k + 1 = lt_of_mul-lt-mul_right H u in
          omega arith;
    }

module _ {d : Bool} {p : Plan} {P Q S H : ℕ} (s : Span d p P Q S H) (K : ℕ) (r : Reach S H K) where
  -- how it ends
  abbrev pub Arrival : Fate → Type 0
  Arrival f = ((f ≡ tails (K - 1)) × (S < K * H)) ⊎ ((u : Float) × (f ≡ arrives u K) × Along d u (P + S) Q × (S ≡ K * H))

  -- the last step is the n-th
  exactly : (n : ℕ) → n * H ≤ S → S ≤ n * H → n ≡ K
  exactly n a b =
      let m = s.moves in
      let x = r.reaches in
      let y = r.closely in
      let u : n ≤ K = le_of_mul-le-mul_right {k = H} (omega arith) m in
      let v : K * H < (n + 1) * H = omega arith in
      let w : K < n + 1 = lt_of_mul-lt-mul_right H v in
      omega arith

  -- the next step is the last, and it is short
  shortly : (n : ℕ) → n * H < S → S < (n + 1) * H → K ≡ n + 1
  shortly n a b =
      let m = s.moves in
      let x = r.reaches in
      let y = r.closely in
      let u : n * H < K * H = omega arith in
      let u' : n < K = lt_of_mul-lt-mul_right H u in
      let v : K * H < (n + 2) * H = omega arith in
      let v' : K < n + 2 = lt_of_mul-lt-mul_right H v in
      omega arith

  arrival : (n : ℕ) (t : Float) → Along d t (P + n * H) Q → n * H ≤ S → S ≤ n * H → Arrival (arrives t n)
  arrival n t X a b =
      let e : n ≡ K = exactly n a b in
      let m : n * H ≡ K * H = ap (λ (i : ℕ). i * H) e in
      inr (t, ap (arrives t) e, move_along (P + S) Q X (omega arith), omega arith)

  landing : (n : ℕ) → n * H < S → S < (n + 1) * H → Arrival (tails n)
  landing n a b =
      let f : K ≡ n + 1 = shortly n a b in
      let e : n ≡ K - 1 = omega arith in
      let m : K * H ≡ (n + 1) * H = ap (λ (i : ℕ). i * H) f in
      inl (ap tails e, omega arith)

  fate_on : (left n : ℕ) (t : Float) → Along d t (P + n * H) Q → n * H ≤ S → K ≤ n + left → Arrival (fate_from left p t n)
  unfolding fate_from
  fate_on zero n t X l k =
      let a = r.reaches in
      let b : K * H ≤ (n + 0) * H = mul-le-mul_right H k in
      subst (λ (c : Bool). Arrival (cond c (runs_out n) (arrives t n))) (sym (goes_on s (n * H) l X ∙ le-ltb (n * H) S (omega arith))) (arrival n t X l (omega arith))
  fate_on (suc left) n t X l k =
      subst (λ (c : Bool). Arrival (cond c (cond (is_tail p t) (tails n) (fate_from left p (add binary64 t p.h) (n + 1))) (arrives t n))) (sym (goes_on s (n * H) l X))
      (subst (λ (b : Bool). Arrival (cond (ltb (n * H) S) (cond b (tails n) (fate_from left p (add binary64 t p.h) (n + 1))) (arrives t n))) (sym (is_short_lem s (n * H) l X))
      (go (ltb (n * H) S) (ltb (S - n * H) H) (ltb→lt (n * H) S) (nltb→le (n * H) S) (ltb→lt (S - n * H) H) (nltb→le (S - n * H) H)
      (λ (h : n * H + H ≤ S). fate_on left (n + 1) (add binary64 t p.h) (move_along (P + (n + 1) * H) Q (step_on_lem s (n * H) h X) (omega arith)) (omega arith) (omega arith))))
    where
      go : (c b : Bool) → (T c → n * H < S) → (T (not c) → S ≤ n * H) → (T b → S - n * H < H) → (T (not b) → H ≤ S - n * H)
          → (n * H + H ≤ S → Arrival (fate_from left p (add binary64 t p.h) (n + 1)))
          → Arrival (cond c (cond b (tails n) (fate_from left p (add binary64 t p.h) (n + 1))) (arrives t n))
      go true true f g f' g' i = let x = f tt in let y = f' tt in landing n x (omega arith)
      go true false f g f' g' i = let x = f tt in let y = g' tt in i (omega arith)
      go false b f g f' g' i = arrival n t X l (g tt)

  pub fate_is : K ≤ p.settings.max_steps → Arrival (fate_of p)
  unfolding fate_of
  fate_is k = let f = s.far in fate_on (p.settings.max_steps - 4) 4 _ (point_on_lem s 4 (omega arith)) (omega arith) (omega arith)
