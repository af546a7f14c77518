-- The story along a tree on which claims hold: its samples are in order, each as claimed, and unless it ends by 15 it ends as claimed.
use Rattle.std.proofs.Common.{Ok, Err}
use mathlib.Core.Path.{◌≡◌, refl, sym, ap, subst, ◌∙◌}
use mathlib.Core.Logic.{◌≢◌}
use Prim.Native.Nat.{ℕ, ◌+◌, ◌≤◌}
use native.Mathlib.Nat.{add-zero}
use native.Mathlib.Omega.{arith}
use mathlib.Core.Bool.{Bool, true, false, cond}
use mathlib.Core.List.{List, [], ◌∷◌, ◌++◌}
use lib.IntN.{nat_abs}
use lib.ListN.{length, length-append}
use lib.Ieee.{Float}
use Rattle.triple.specs.declared.Triple.{Triple}
use Rattle.triple.specs.declared.Sample.{Sample}
use Rattle.plan.specs.declared.Plan.{Plan}
use Rattle.plan.specs.Limits.{wants_samples}
use Rattle.plan.specs.Plan.{plan_of}
use Rattle.plan.specs.Verdict.{Verdict, verdict_on}
use Rattle.rules.specs.Rules.{Course, asks, stores, ends, exceeds, integrate}
use Rattle.point_mass.specs.Force.{distance, is_too_low, pull}
use Rattle.whole.specs.Whole.{IsWhole}
use Rattle.counting.specs.Paths.{Claims, Each, Always}
use Rattle.counting.specs.Clockwork.{fate_of, steps_of, sample_time, clockwork}
use Rattle.counting.specs.Counting.{span_of, steps_for, when_for, on_time}
use Rattle.counting.proofs.Marching.{by_the_clock}
use Rattle.counting.proofs.OnTime.{ends_on_time}
use Rattle.flight.specs.Story.{Entry, Story, numbered, nothing_more, before, story, story_by, story_of}
use Rattle.flight.specs.OnTime.{InOrder, TellsOnTime, StoryByTheClock, StoryOnTime}

length_numbered : (ss : List Sample) (n : ℕ) → length (numbered n ss) ≡ length ss
unfolding numbered
length_numbered [] n = refl
length_numbered (s ∷ ss) n = let e = length_numbered ss (n + 1) in omega arith

in_order_more : (P : ℕ → Float → Type 0) (ss : List Sample) (n : ℕ) (es : List Entry) → Each P n ss → InOrder P (n + length ss) es → InOrder P n (numbered n ss ++ es)
unfolding Each InOrder numbered
in_order_more P [] n es h k = subst (λ (m : ℕ). InOrder P m es) (add-zero n) k
in_order_more P (s ∷ ss) n es h k =
    let e : n + length (s ∷ ss) ≡ n + 1 + length ss = omega arith in
    (refl, h.0, in_order_more P ss (n + 1) es h.1 (subst (λ (m : ℕ). InOrder P m es) e k))

in_order_so : (P Q : ℕ → Float → Type 0) → ((n : ℕ) (t : Float) → P n t → Q n t) → (es : List Entry) (n : ℕ) → InOrder P n es → InOrder Q n es
unfolding InOrder
in_order_so P Q f [] n h = tt
in_order_so P Q f (e ∷ es) n h = (h.0, f n e.sample.t h.1, in_order_so P Q f es (n + 1) h.2)

-- ---- E is what an end claims of the count of samples and the ending
module _ (c : Claims) (E : (n ending : ℕ) → Type 0) (finish : (e n : ℕ) (t : Float) (steps startups : ℕ) → c.finish e n t steps startups → E n 0)
    (excess : (e n : ℕ) → c.excess e n → E n 2) where
  -- from sample n on
  abbrev pub On : ℕ → Story → Type 0
  On n st = InOrder c.sample n st.samples × (st.ending ≢ 15 → E (n + length st.samples) st.ending)

  low_or : (d : Bool) (n : ℕ) (st : Story) → On n st → On n (cond d (nothing_more 15) st)
  unfolding InOrder
  low_or true n st h = (tt, λ (e : ◌≢◌ {A = ℕ} 15 15). absurd (e refl))
  low_or false n st h = h

  pub along : (t : Course) (e n : ℕ) → Always c e n t → On n (story t)
  unfolding story Always InOrder
  along (asks q k) e n h = low_or (is_too_low (distance q.r)) n (story (k (pull q.r))) (along (k (pull q.r)) (e + 1) n (h (pull q.r)))
  along (stores i ss t) e n h =
      let x = along t e (n + length ss) h.2 in
      let l = length-append (numbered n ss) (story t).samples in
      let d = length_numbered ss n in
      let z : n + length ss + length (story t).samples ≡ n + length (numbered n ss ++ (story t).samples) = omega arith in
      subst (λ (m : ℕ). On n (before (numbered m ss) (story t))) (sym h.0)
      (in_order_more c.sample ss n (story t).samples h.1 x.0, λ (u : (story t).ending ≢ 15). subst (λ (m : ℕ). E m (story t).ending) z (x.1 u))
  along (ends t y steps startups) e n h = (tt, λ (u : ◌≢◌ {A = ℕ} 0 15). subst (λ (m : ℕ). E m 0) (sym (add-zero n)) (finish e n t steps startups h))
  along exceeds e n h = (tt, λ (u : ◌≢◌ {A = ℕ} 2 15). subst (λ (m : ℕ). E m 2) (sym (add-zero n)) (excess e n h))

-- ---- every start
clocked : (v : Verdict) (p : Plan) (r0 v0 : Triple) → InOrder (λ (n : ℕ) (t : Float). t ≡ sample_time p (fate_of p) n) 0 (story_by v p r0 v0).samples
unfolding story_by clockwork InOrder
clocked (Ok u) p r0 v0 =
    in_order_so _ _ (λ (n : ℕ) (t : Float) (h : (wants_samples p.settings ≡ true) × (n ≤ steps_of (fate_of p)) × (t ≡ sample_time p (fate_of p) n)). h.2) (story (integrate p r0 v0)).samples 0
    (along (clockwork p (fate_of p)) (λ (n ending : ℕ). Unit {0}) (λ e n t steps startups h. tt) (λ e n h. tt) (integrate p r0 v0) 0 0 (by_the_clock p r0 v0)).0
clocked (Err e) p r0 v0 = tt

pub story_by_the_clock : StoryByTheClock
unfolding story_of
story_by_the_clock s t0 tf r0 v0 = clocked (verdict_on (plan_of s t0 tf)) (plan_of s t0 tf) r0 v0

-- ---- whole numbers within the bounds
pub story_on_time : StoryOnTime
unfolding story_of story_by on_time
story_on_time s t0 tf z0 zf hz r0 v0 b w =
    let x = ends_on_time b r0 v0 in
    subst (λ (v : Verdict). TellsOnTime z0 zf (nat_abs hz) (story_by v (plan_of s t0 tf) r0 v0)) (sym x.accepted)
    (told (along (on_time s t0 tf z0 zf (nat_abs hz)) Well (λ e n t steps startups h. (refl, h.samples)) (λ e n h. absurd h) (integrate (plan_of s t0 tf) r0 v0) 0 0 x.always))
  where
    Well : (n ending : ℕ) → Type 0
    Well n ending = (ending ≡ 0) × (n ≡ cond (wants_samples s) (steps_for (span_of z0 zf) (nat_abs hz) + 1) 0)

    Claimed : ℕ → Float → Type 0
    Claimed n t = (wants_samples s ≡ true) × (n ≤ steps_for (span_of z0 zf) (nat_abs hz)) × IsWhole t (when_for z0 zf (nat_abs hz) n)

    told : {st : Story} → InOrder Claimed 0 st.samples × (st.ending ≢ 15 → Well (0 + length st.samples) st.ending) → TellsOnTime z0 zf (nat_abs hz) st
    told {st} h =
        record {
          each = in_order_so Claimed (λ (n : ℕ) (t : Float). IsWhole t (when_for z0 zf (nat_abs hz) n)) (λ (n : ℕ) (t : Float) (k : Claimed n t). k.2) st.samples 0 h.0;
          ends_well = λ (u : st.ending ≢ 15). (h.1 u).0;
          all = λ (u : st.ending ≢ 15). let e = (h.1 u).1 ∙ ap (λ (d : Bool). cond d (steps_for (span_of z0 zf) (nat_abs hz) + 1) 0) w in omega arith;
        }
