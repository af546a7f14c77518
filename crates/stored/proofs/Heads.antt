-- The waiting point of a mark is all that is stored of its numbers.
use mathlib.Core.Path.{◌≡◌, refl, sym, ap}
use mathlib.Core.Logic.{◌≢◌}
use Prim.Native.Nat.{ℕ, zero, suc, ◌≤◌}
use native.Mathlib.Omega.{arith}
use mathlib.Core.Bool.{Bool, true, false, cond}
use mathlib.Core.List.{List, [], ◌∷◌}
use lib.Dec.{leb}
use borrow.Author.Tests.{lt-leb}
use Rattle.run.specs.declared.Count.{Count}
use Rattle.run.specs.declared.Body.{Body}
use Rattle.run.specs.declared.Run.{Run}
use Rattle.run.specs.declared.waiting.Stage.{Stage}
use Rattle.run.specs.declared.waiting.Stage.TheVariants.{First, Second, Third, Fourth}
use Rattle.run.specs.declared.waiting.Waiting.{Waiting}
use Rattle.run.specs.declared.waiting.Waiting.TheVariants.{Epoch, Forward, Backward, Survey, Pass, Step, Tail, TailSample, Ended, Unknown}
use Rattle.run.specs.Waiting.{stage_number, at_number, index_number, stage_at, stage_from, waiting_at, waits_at}
use Rattle.run.specs.Sound.{is_sound}
use Rattle.run.specs.Ready.{Small}
use Rattle.run.proofs.Counts.{Counts, to_small, to_facts}
use Rattle.stored.specs.Layout.{line, uses_of}
use Rattle.stored.specs.Content.{head_of}

-- the head of a waiting point
abbrev pub head_for : Waiting → Count → ℕ → List ℕ
head_for w c samples = 1 ∷ at_number w ∷ index_number w ∷ stage_at w ∷ c.number ∷ samples ∷ []

at_decoded : (a i st : ℕ) (s : Stage) (c : Count) (samples : ℕ) → stage_number s ≡ st → waiting_at a i s ≢ Unknown
    → head_of (record { at = a; index = i; stage = st; count = c }) (uses_of (waiting_at a i s)) samples ≡ head_for (waiting_at a i s) c samples
unfolding head_of uses_of line waiting_at
at_decoded zero i st s c samples e n = refl
at_decoded (suc zero) i st s c samples e n = refl
at_decoded (suc (suc zero)) i st s c samples e n = ap (λ (x : ℕ). 1 ∷ 2 ∷ i ∷ x ∷ c.number ∷ samples ∷ []) (sym e)
at_decoded (suc (suc (suc zero))) i st s c samples e n = ap (λ (x : ℕ). 1 ∷ 3 ∷ i ∷ x ∷ c.number ∷ samples ∷ []) (sym e)
at_decoded (suc (suc (suc (suc zero)))) i st s c samples e n = refl
at_decoded (suc (suc (suc (suc (suc zero))))) i st s c samples e n = refl
at_decoded (suc (suc (suc (suc (suc (suc zero)))))) i st s c samples e n = refl
at_decoded (suc (suc (suc (suc (suc (suc (suc zero))))))) i st s c samples e n = ap (λ (x : ℕ). 1 ∷ 7 ∷ 0 ∷ x ∷ c.number ∷ samples ∷ []) (sym e)
at_decoded (suc (suc (suc (suc (suc (suc (suc (suc zero)))))))) i st s c samples e n = refl
at_decoded (suc (suc (suc (suc (suc (suc (suc (suc (suc a))))))))) i st s c samples e n = absurd (n refl)

decoded : (a i st : ℕ) (c : Count) (samples : ℕ) → waits_at (record { at = a; index = i; stage = st; count = c }) ≢ Unknown
    → head_of (record { at = a; index = i; stage = st; count = c }) (uses_of (waits_at (record { at = a; index = i; stage = st; count = c }))) samples
    ≡ head_for (waits_at (record { at = a; index = i; stage = st; count = c })) c samples
unfolding waits_at stage_from
decoded a i zero c samples n = at_decoded a i 0 First c samples refl n
decoded a i (suc zero) c samples n = at_decoded a i 1 Second c samples refl n
decoded a i (suc (suc zero)) c samples n = at_decoded a i 2 Third c samples refl n
decoded a i (suc (suc (suc zero))) c samples n = at_decoded a i 3 Fourth c samples refl n
decoded a i (suc (suc (suc (suc st)))) c samples n =
    let e : leb (suc (suc (suc (suc st)))) 3 ≡ false = lt-leb (suc (suc (suc (suc st)))) 3 (omega arith) in absurd (n (ap (λ (d : Bool). cond d (waiting_at a i Fourth) Unknown) e))

-- ---- the numbers of a waiting point that has counts
pub record Fits (w : Waiting) : Type 0 where
  pub some : 1 ≤ at_number w
  pub at : at_number w ≤ 8
  pub index : index_number w ≤ 255
  pub stage : stage_at w ≤ 255

stage_small : (s : Stage) → stage_number s ≤ 255
stage_small First = omega arith
stage_small Second = omega arith
stage_small Third = omega arith
stage_small Fourth = omega arith

fitting : (w : Waiting) (e : ℕ) (b : Body) → Small b.plan.settings → Counts w e b → Fits w
fitting Epoch e b s c = record { some = omega arith; at = omega arith; index = omega arith; stage = omega arith }
fitting (Forward i t) e b s c = record { some = omega arith; at = omega arith; index = omega arith; stage = stage_small t }
fitting (Backward i t) e b s c = record { some = omega arith; at = omega arith; index = omega arith; stage = stage_small t }
fitting (Survey i) e b s c = record { some = omega arith; at = omega arith; index = omega (arith, c.0.last); stage = omega arith }
fitting (Pass i) e b s c = record { some = omega arith; at = omega arith; index = omega (arith, c.2.last); stage = omega arith }
fitting (Step n) e b s c = record { some = omega arith; at = omega arith; index = omega (arith, c.0, s.passes); stage = omega arith }
fitting (Tail t) e b s c = record { some = omega arith; at = omega arith; index = omega arith; stage = stage_small t }
fitting TailSample e b s c = record { some = omega arith; at = omega arith; index = omega arith; stage = omega arith }
fitting Ended e b s c = absurd c
fitting Unknown e b s c = absurd c

no_unknown : (w : Waiting) (e : ℕ) (b : Body) → Counts w e b → w ≢ Unknown
no_unknown w e b c z = go w z c
  where
    go : (w : Waiting) → w ≡ Unknown → Counts w e b → ⊥
    go Unknown z c = c
    go Epoch z c = let y : ◌≡◌ {A = ℕ} 0 1 = cc in omega arith
    go (Forward i s) z c = let y : ◌≡◌ {A = ℕ} 0 1 = cc in omega arith
    go (Backward i s) z c = let y : ◌≡◌ {A = ℕ} 0 1 = cc in omega arith
    go (Survey i) z c = let y : ◌≡◌ {A = ℕ} 0 1 = cc in omega arith
    go (Pass i) z c = let y : ◌≡◌ {A = ℕ} 0 1 = cc in omega arith
    go (Step n) z c = let y : ◌≡◌ {A = ℕ} 0 1 = cc in omega arith
    go (Tail s) z c = let y : ◌≡◌ {A = ℕ} 0 1 = cc in omega arith
    go TailSample z c = let y : ◌≡◌ {A = ℕ} 0 1 = cc in omega arith
    go Ended z c = c

pub head_is : (run : Run) (samples : ℕ) → is_sound run ≡ true
    → head_of run.mark (uses_of (waits_at run.mark)) samples ≡ head_for (waits_at run.mark) run.mark.count samples
head_is run samples t =
    decoded run.mark.at run.mark.index run.mark.stage run.mark.count samples (no_unknown _ _ _ (to_facts run t).counted)

pub head_fits : (run : Run) → is_sound run ≡ true → Fits (waits_at run.mark)
head_fits run t = let f = to_facts run t in fitting _ _ _ (to_small run.body.plan f.lawful) f.counted
