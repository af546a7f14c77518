-- What `is_sound` says, as facts on numbers, both ways; and how the counts move on.
use mathlib.Core.Path.{◌≡◌, refl}
use mathlib.Core.Logic.{◌≢◌}
use Prim.Native.Nat.{ℕ, ◌+◌, ◌-◌, ◌*◌, ◌%◌, ◌^◌, ◌≤◌, ◌<◌}
use native.Mathlib.Nat.{mul-le-mul}
use native.Mathlib.Omega.{arith}
use mathlib.Core.Bool.{Bool, true, false, not, ◌&&◌, cond}
use lib.Dec.{eqb, ltb}
use borrow.Author.Tests.{leb-true, ltb-true, eqb-true, eqb-false, le-leb, lt-ltb, eq-eqb, ne_eqb}
pub use Rattle.double.proofs.Booleans.{both}
use Rattle.plan.specs.declared.Settings.{Settings}
use Rattle.plan.specs.declared.Plan.{Plan}
use Rattle.plan.specs.Limits.{max_passes, max_steps, are_within_limits, wants_samples}
use Rattle.plan.specs.Lawful.{is_dated, is_lawful}
use Rattle.run.specs.declared.Count.{Count}
use Rattle.run.specs.declared.Body.{Body}
use Rattle.run.specs.declared.Run.{Run}
use Rattle.run.specs.declared.waiting.Stage.TheVariants.{First, Second, Third, Fourth}
use Rattle.run.specs.declared.waiting.Waiting.{Waiting}
use Rattle.run.specs.declared.waiting.Waiting.TheVariants.{Epoch, Forward, Backward, Survey, Pass, Step, Tail, TailSample, Ended, Unknown}
use Rattle.run.specs.Limits.{numbering, ample}
use Rattle.run.specs.Waiting.{next_count, wrapped_next, stage_number, mark_at, waits_at}
use Rattle.run.specs.Sound.{is_idle, forward_counts, backward_counts, rank_of, point_counts, pass_counts, is_started_up, step_counts, body_counts, has_counts, is_sound}
use Rattle.run.specs.Ready.{Small, Ready}
use Rattle.run.proofs.Decoding.{read}

-- ---- the counts of the next question
pub next_is : (c : Count) → c.evals < ample → wrapped_next c ≡ next_count c
unfolding next_count
next_is c h = let z : (c.evals + 1) % 2 ^ 64 ≡ c.evals + 1 = omega (arith, h) in rw z

-- ---- tests
apart : {A : Type 0} → false ≡ true → A
apart e = let z : ◌≡◌ {A = ℕ} 0 1 = cc in absurd (omega arith)

joined : (p q : Bool) → p ≡ true → q ≡ true → p && q ≡ true
joined p q e f = rw (e, f)

-- a test that holds leaves the next
pub given : (p q x : Bool) → p ≡ true → x ≡ q → x ≡ (p && q)
given p q x e f = rw e f

-- ---- the counts, as facts on numbers: S startup passes of at most M, n steps, C corrector passes at most
pub record Idle (S n : ℕ) : Type 0 where
  pub passes : S ≡ 0
  pub steps : n ≡ 0

-- the startup passes made
pub record Started (S M : ℕ) : Type 0 where
  pub most : S ≤ M
  pub some : S ≡ 0 → M ≡ 0

-- e answers after the startup, of which k belong to the open step
pub record Stepping (k e S M n C : ℕ) : Type 0 where
  pub started : Started S M
  pub four : 4 ≤ n
  pub lower : 41 + 8 * S + k + (n - 4) ≤ e
  pub upper : e ≤ 41 + 8 * S + k + (n - 4) * (1 + C)

abbrev pub IdleBody : Body → Type 0
IdleBody b = Idle b.startup_iters b.track.steps

abbrev pub SteppingBody : ℕ → ℕ → Body → Type 0
SteppingBody k e b = Stepping k e b.startup_iters b.plan.settings.max_startup_iters b.track.steps b.plan.settings.max_corrector_iters

pub record Point (i before e : ℕ) : Type 0 where
  pub last : i ≤ 8
  pub other : i ≢ 4
  pub answers : e ≡ before + rank_of i

abbrev pub Counts : Waiting → ℕ → Body → Type 0
Counts Epoch e b = (e ≡ 0) × IdleBody b
Counts (Forward i s) e b = (4 ≤ i) × (i ≤ 7) × (e ≡ 4 * i + stage_number s - 15) × IdleBody b
Counts (Backward i s) e b = (1 ≤ i) × (i ≤ 4) × (e ≡ 33 + stage_number s - 4 * i) × IdleBody b
Counts (Survey i) e b = Point i 33 e × IdleBody b
Counts (Pass i) e b = (b.startup_iters < b.plan.settings.max_startup_iters) × (b.track.steps ≡ 0) × Point i (41 + 8 * b.startup_iters) e
Counts (Step c) e b = (c ≤ b.plan.settings.max_corrector_iters) × (b.track.steps < b.plan.settings.max_steps) × SteppingBody c e b
Counts (Tail s) e b = (b.track.steps < b.plan.settings.max_steps) × SteppingBody (stage_number s) e b
Counts TailSample e b = (wants_samples b.plan.settings ≡ true) × (b.track.steps < b.plan.settings.max_steps) × SteppingBody 4 e b
Counts Ended e b = ⊥
Counts Unknown e b = ⊥

-- ---- from the tests to the facts
to_idle : (b : Body) → is_idle b ≡ true → IdleBody b
unfolding is_idle
to_idle b t = let h = both _ _ t in record { passes = eqb-true _ _ h.0; steps = eqb-true _ _ h.1 }

pub to_started : (S M : ℕ) → is_started_up S M ≡ true → Started S M
unfolding is_started_up
to_started S M t =
    let h = both _ _ t in
    record { most = leb-true _ _ h.0; some = λ z. go (eqb S 0) (eq-eqb _ _ z) h.1 }
  where
    go : (d : Bool) → d ≡ true → cond d (eqb M 0) (not false) ≡ true → M ≡ 0
    go true e u = eqb-true _ _ u
    go false e u = apart e

pub below : (k e : ℕ) (s : Settings) (S n : ℕ) → step_counts k e s S n ≡ true → (n < s.max_steps) × Stepping k e S s.max_startup_iters n s.max_corrector_iters
unfolding step_counts
below k e s S n t =
    let h = both _ _ t in
    let i = both _ _ h.0 in
    let j = both _ _ i.0 in
    let l = both _ _ j.0 in
    (ltb-true _ _ j.1, record { started = to_started _ _ l.0; four = leb-true _ _ l.1; lower = leb-true _ _ i.1; upper = leb-true _ _ h.1 })

to_point : (i before e : ℕ) → point_counts i before e ≡ true → Point i before e
unfolding point_counts
to_point i before e t =
    let h = both _ _ t in
    let k = both _ _ h.0 in
    record { last = leb-true _ _ k.0; other = go (eqb i 4) refl k.1; answers = eqb-true _ _ h.1 }
  where
    go : (d : Bool) → eqb i 4 ≡ d → not d ≡ true → i ≢ 4
    go true q u = apart u
    go false q u = eqb-false _ _ q

to_counts : (w : Waiting) (e : ℕ) (b : Body) → has_counts w e b ≡ true → Counts w e b
unfolding has_counts forward_counts backward_counts pass_counts
to_counts Epoch e b t = let h = both _ _ t in (eqb-true _ _ h.0, to_idle b h.1)
to_counts (Forward i s) e b t = let h = both _ _ t in let k = both _ _ h.0 in let l = both _ _ k.0 in (leb-true _ _ l.0, leb-true _ _ l.1, eqb-true _ _ k.1, to_idle b h.1)
to_counts (Backward i s) e b t = let h = both _ _ t in let k = both _ _ h.0 in let l = both _ _ k.0 in (leb-true _ _ l.0, leb-true _ _ l.1, eqb-true _ _ k.1, to_idle b h.1)
to_counts (Survey i) e b t = let h = both _ _ t in (to_point i 33 e h.0, to_idle b h.1)
to_counts (Pass i) e b t = let h = both _ _ t in let k = both _ _ h.0 in (ltb-true _ _ k.0, eqb-true _ _ k.1, to_point i _ e h.1)
to_counts (Step c) e b t = let h = both _ _ t in let k = below c e _ _ _ h.1 in (leb-true _ _ h.0, k.0, k.1)
to_counts (Tail s) e b t = below (stage_number s) e _ _ _ t
to_counts TailSample e b t = let h = both _ _ t in let k = below 4 e _ _ _ h.1 in (h.0, k.0, k.1)
to_counts Ended e b t = apart t
to_counts Unknown e b t = apart t

-- ---- and back
from_idle : (b : Body) → IdleBody b → is_idle b ≡ true
unfolding is_idle
from_idle b h = simp (eq-eqb _ _ h.passes, eq-eqb _ _ h.steps)

from_started : (S M : ℕ) → Started S M → is_started_up S M ≡ true
unfolding is_started_up
from_started S M h = rw (le-leb _ _ h.most) (go (eqb S 0) refl)
  where
    go : (d : Bool) → eqb S 0 ≡ d → cond d (eqb M 0) (not false) ≡ true
    go true e = eq-eqb _ _ (h.some (eqb-true _ _ e))
    go false e = refl

from_below : (k e : ℕ) (b : Body) → b.track.steps < b.plan.settings.max_steps → SteppingBody k e b → body_counts k e b ≡ true
unfolding step_counts
from_below k e b m h = rw (from_started _ _ h.started, le-leb _ _ h.four, lt-ltb _ _ m, le-leb _ _ h.lower, le-leb _ _ h.upper)

from_point : (i before e : ℕ) → Point i before e → point_counts i before e ≡ true
unfolding point_counts
from_point i before e h = rw (le-leb _ _ h.last, ne_eqb _ _ h.other, eq-eqb _ _ h.answers)

from_counts : (w : Waiting) (e : ℕ) (b : Body) → Counts w e b → has_counts w e b ≡ true
unfolding has_counts forward_counts backward_counts pass_counts
from_counts Epoch e b c = rw (eq-eqb _ _ c.0, from_idle b c.1)
from_counts (Forward i s) e b c = rw (le-leb _ _ c.0, le-leb _ _ c.1, eq-eqb _ _ c.2, from_idle b c.3)
from_counts (Backward i s) e b c = rw (le-leb _ _ c.0, le-leb _ _ c.1, eq-eqb _ _ c.2, from_idle b c.3)
from_counts (Survey i) e b c = rw (from_point i 33 e c.0, from_idle b c.1)
from_counts (Pass i) e b c = rw (lt-ltb _ _ c.0, eq-eqb _ _ c.1, from_point i _ e c.2)
from_counts (Step n) e b c = rw (le-leb _ _ c.0, from_below n e b c.1 c.2)
from_counts (Tail s) e b c = from_below (stage_number s) e b c.0 c.1
from_counts TailSample e b c = joined (wants_samples b.plan.settings) (body_counts 4 e b) c.0 (from_below 4 e b c.1 c.2)
from_counts Ended e b c = absurd c
from_counts Unknown e b c = absurd c

-- ---- a sound run
pub record Facts (run : Run) : Type 0 where
  pub lawful : is_lawful run.body.plan ≡ true
  pub numbered : run.mark.count.number ≡ run.mark.count.evals % numbering
  pub counted : Counts (waits_at run.mark) run.mark.count.evals run.body

pub within : (p : Plan) → is_lawful p ≡ true → are_within_limits p.settings ≡ true
unfolding is_lawful
within p t = (both (are_within_limits p.settings) (is_dated p) t).0

pub to_small : (p : Plan) → is_lawful p ≡ true → Small p.settings
unfolding are_within_limits
to_small p t =
    let h = both _ _ (within p t) in
    let f = both _ _ h.0 in
    let k = both _ _ f.0 in
    record { startups = leb-true _ _ k.0; passes = leb-true _ _ k.1; steps = leb-true _ _ h.1 }

pub to_facts : (run : Run) → is_sound run ≡ true → Facts run
unfolding is_sound
to_facts run t =
    let h = both _ _ t in
    let k = both _ _ h.0 in
    record { lawful = k.0; numbered = eqb-true _ _ k.1; counted = to_counts (waits_at run.mark) run.mark.count.evals run.body h.1 }

-- a run that has just been marked at a waiting point
pub sound_at : (w : Waiting) (c : Count) (b : Body) → is_lawful b.plan ≡ true → c.number ≡ c.evals % numbering → Counts w c.evals b
    → is_sound (record { mark = mark_at w c; body = b }) ≡ true
unfolding is_sound
sound_at w c b l n h = rw (l, eq-eqb _ _ n, read w c, from_counts w c.evals b h)

-- ---- no count wraps
pub rank_le : (i : ℕ) → rank_of i ≤ i
unfolding rank_of
rank_le i = go (ltb i 4)
  where
    go : (d : Bool) → cond d i (i - 1) ≤ i
    go true = omega arith
    go false = omega arith

-- the answers of all steps
pub few : (s : Settings) (n : ℕ) → n < s.max_steps → Small s → (n - 4) * (1 + s.max_corrector_iters) ≤ max_steps * (1 + max_passes)
few s n m h = mul-le-mul {n₂ = max_steps} {m₂ = 1 + max_passes} (omega (arith, h.steps)) (omega (arith, h.passes))

-- the most that can be accepted before an open question: the startup and its passes, the passes of the open step, all steps before it
abbrev pub most_evals : ℕ
most_evals = 41 + 8 * max_passes + max_passes + max_steps * (1 + max_passes)

answers_small : (w : Waiting) (e : ℕ) (b : Body) → Small b.plan.settings → Counts w e b → e ≤ most_evals
answers_small Epoch e b s c = omega arith
answers_small (Forward i First) e b s c = omega arith
answers_small (Forward i Second) e b s c = omega arith
answers_small (Forward i Third) e b s c = omega arith
answers_small (Forward i Fourth) e b s c = omega arith
answers_small (Backward i First) e b s c = omega arith
answers_small (Backward i Second) e b s c = omega arith
answers_small (Backward i Third) e b s c = omega arith
answers_small (Backward i Fourth) e b s c = omega arith
answers_small (Survey i) e b s c = omega (arith, rank_le i)
answers_small (Pass i) e b s c = omega (arith, rank_le i, s.startups)
answers_small (Step n) e b s c = omega (arith, few _ _ c.1 s, c.2.started.most, s.startups, s.passes)
answers_small (Tail First) e b s c = omega (arith, few _ _ c.0 s, c.1.started.most, s.startups)
answers_small (Tail Second) e b s c = omega (arith, few _ _ c.0 s, c.1.started.most, s.startups)
answers_small (Tail Third) e b s c = omega (arith, few _ _ c.0 s, c.1.started.most, s.startups)
answers_small (Tail Fourth) e b s c = omega (arith, few _ _ c.0 s, c.1.started.most, s.startups)
answers_small TailSample e b s c = omega (arith, few _ _ c.1 s, c.2.started.most, s.startups)
answers_small Ended e b s c = absurd c
answers_small Unknown e b s c = absurd c

pub evals_few : (run : Run) → is_sound run ≡ true → run.mark.count.evals ≤ most_evals
evals_few run t = let f = to_facts run t in answers_small (waits_at run.mark) run.mark.count.evals run.body (to_small run.body.plan f.lawful) f.counted

pub evals_small : (run : Run) → is_sound run ≡ true → run.mark.count.evals < ample
evals_small run t = omega (arith, evals_few run t)

ready_at : (w : Waiting) (e : ℕ) (b : Body) → Small b.plan.settings → Counts w e b → Ready w b
ready_at Epoch e b s c = tt
ready_at (Forward i st) e b s c = omega arith
ready_at (Backward i st) e b s c = omega arith
ready_at (Survey i) e b s c = tt
ready_at (Pass i) e b s c = omega (arith, s.startups)
ready_at (Step n) e b s c = (s.passes, omega (arith, s.steps))
ready_at (Tail st) e b s c = omega (arith, s.steps)
ready_at TailSample e b s c = omega (arith, s.steps)
ready_at Ended e b s c = absurd c
ready_at Unknown e b s c = absurd c

pub ready : (run : Run) → is_sound run ≡ true → Ready (waits_at run.mark) run.body
ready run t = let f = to_facts run t in ready_at (waits_at run.mark) run.mark.count.evals run.body (to_small run.body.plan f.lawful) f.counted
