-- How the counts move on: each answer takes the counts of its waiting point to those of the next.
use mathlib.Core.Path.{◌≡◌, refl, sym, ◌∙◌, ap, subst}
use mathlib.Core.Logic.{◌≢◌}
use Prim.Native.Nat.{ℕ, suc, ◌+◌, ◌-◌, ◌*◌, ◌≤◌, ◌<◌}
use native.Mathlib.Nat.{suc-mul}
use native.Mathlib.Omega.{arith}
use mathlib.Core.Bool.{Bool, true, false, cond, false≢true}
use lib.Dec.{eqb, ltb}
use borrow.Author.Tests.{eqb-true, eqb-false, ltb-true, ltb-false}
use Rattle.triple.specs.declared.Triple.{Triple}
use Rattle.triple.specs.declared.State.{State}
use Rattle.plan.specs.Limits.{wants_samples}
use Rattle.run.specs.declared.Body.{Body}
use Rattle.run.specs.declared.waiting.Stage.{Stage}
use Rattle.run.specs.declared.waiting.Stage.TheVariants.{First, Second, Third, Fourth}
use Rattle.run.specs.declared.waiting.Waiting.TheVariants.{Epoch, Forward, Backward, Survey, Pass, Step, Tail, TailSample}
use Rattle.run.specs.Waiting.{stage_number, is_last, stage_after, next_point}
use Rattle.run.specs.Sound.{rank_of}
use Rattle.run.specs.Tracks.{start_track, track_on}
use Rattle.run.specs.Moves.{surveyed, kept, moved_on, moved_back, pass_begun, renewed, pass_made, launched, predicted, tried, committed}
use Rattle.run.proofs.Counts.{SteppingBody, Point, Counts}

-- ---- the startup's RK4 steps
pub epoch_on : (e : ℕ) (b : Body) (x : Triple) → Counts Epoch e b → Counts (Forward 4 First) (e + 1) (surveyed 4 b x)
unfolding surveyed
epoch_on e b x c = (omega arith, omega arith, omega (arith, c.0), c.1)

-- an RK4 step's next question
one_further : (s : Stage) → is_last s ≡ false → stage_number (stage_after s) ≡ stage_number s + 1
one_further First h = refl
one_further Second h = refl
one_further Third h = refl
one_further Fourth h = absurd (false≢true (sym h))

module _ (i e : ℕ) (b : Body) (x : Triple) where
  pub forward_kept : (s : Stage) → is_last s ≡ false → Counts (Forward i s) e b → Counts (Forward i (stage_after s)) (e + 1) (kept s b x)
  unfolding kept
  forward_kept s h c = (c.0, c.1, omega (arith, one_further s h, c.2), c.3)

  pub forward_on : i < 7 → Counts (Forward i Fourth) e b → Counts (Forward (i + 1) First) (e + 1) (moved_on i b x)
  unfolding moved_on
  forward_on h c = (omega arith, omega arith, omega arith, c.3)

  pub forward_last : 7 ≤ i → Counts (Forward i Fourth) e b → Counts (Backward 4 First) (e + 1) (moved_on i b x)
  unfolding moved_on
  forward_last h c = (omega arith, omega arith, omega arith, c.3)

  pub backward_kept : (s : Stage) → is_last s ≡ false → Counts (Backward i s) e b → Counts (Backward i (stage_after s)) (e + 1) (kept s b x)
  unfolding kept
  backward_kept s h c = (c.0, c.1, omega (arith, one_further s h, c.2), c.3)

  pub backward_on : 1 < i → Counts (Backward i Fourth) e b → Counts (Backward (i - 1) First) (e + 1) (moved_back i b x)
  unfolding moved_back
  backward_on h c = (omega arith, omega arith, omega arith, c.3)

  pub backward_last : i ≤ 1 → Counts (Backward i Fourth) e b → Counts (Survey 0) (e + 1) (moved_back i b x)
  unfolding moved_back rank_of
  backward_last h c = (record { last = omega arith; other = omega arith; answers = omega arith }, c.3)

-- ---- the points other than the epoch, in order
-- point i is followed by the next, which is one further in rank
pub ranked : (i : ℕ) → i < 8 → i ≢ 4 → (next_point i ≤ 8) × (next_point i ≢ 4) × (rank_of (next_point i) ≡ rank_of i + 1)
unfolding rank_of next_point
ranked i h o = three (eqb i 3) refl
  where
    go : (p r : Bool) → i ≢ 3 → ltb i 4 ≡ p → ltb (i + 1) 4 ≡ r → cond r (i + 1) (i + 1 - 1) ≡ cond p i (i - 1) + 1
    go true true z u v = refl
    go true false z u v = let k : i < 4 = ltb-true _ _ u in let l : 4 ≤ i + 1 = ltb-false _ _ v in omega arith
    go false true z u v = let k : 4 ≤ i = ltb-false _ _ u in let l : i + 1 < 4 = ltb-true _ _ v in omega arith
    go false false z u v = let k : 4 ≤ i = ltb-false _ _ u in omega arith

    three : (d : Bool) → eqb i 3 ≡ d → (cond d 5 (i + 1) ≤ 8) × (cond d 5 (i + 1) ≢ 4) × (cond (ltb (cond d 5 (i + 1)) 4) (cond d 5 (i + 1)) (cond d 5 (i + 1) - 1) ≡ cond (ltb i 4) i (i - 1) + 1)
    three true q = let z : i ≡ 3 = eqb-true _ _ q in (omega arith, omega arith, rw z)
    three false q = let z : i ≢ 3 = eqb-false _ _ q in (omega arith, omega arith, go (ltb i 4) (ltb (i + 1) 4) z refl refl)

pub last_rank : (i : ℕ) → 8 ≤ i → i ≤ 8 → rank_of i ≡ 7
unfolding rank_of
last_rank i h k = let z : i ≡ 8 = omega arith in rw z

point_on_lem : (i before e : ℕ) → i < 8 → Point i before e → Point (next_point i) before (e + 1)
point_on_lem i before e h p = let r = ranked i h p.other in record { last = r.0; other = r.1; answers = omega (arith, r.2, p.answers) }

-- the head of the startup passes
pub record Swept (e : ℕ) (b : Body) : Type 0 where
  pub answers : e ≡ 41 + 8 * b.startup_iters
  pub most : b.startup_iters ≤ b.plan.settings.max_startup_iters
  pub steps : b.track.steps ≡ 0

module _ (i e : ℕ) (b : Body) (x : Triple) where
  pub survey_on : i < 8 → Counts (Survey i) e b → Counts (Survey (next_point i)) (e + 1) (surveyed i b x)
  unfolding surveyed
  survey_on h c = (point_on_lem i 33 e h c.0, c.1)

  pub survey_last : 8 ≤ i → Counts (Survey i) e b → Swept (e + 1) (surveyed i b x)
  unfolding surveyed
  survey_last h c = record { answers = omega (arith, last_rank i h c.0.last, c.0.answers, c.1.passes); most = omega (arith, c.1.passes); steps = c.1.steps }

  pub pass_on : i < 8 → Counts (Pass i) e b → Counts (Pass (next_point i)) (e + 1) (renewed i b x)
  unfolding renewed
  pass_on h c = (c.0, c.1, point_on_lem i _ e h c.2)

  -- the last acceleration of a pass, which then counts
  pub pass_last : 8 ≤ i → Counts (Pass i) e b → Swept (e + 1) (pass_made (renewed i b x))
  unfolding renewed pass_made
  pass_last h c = record { answers = omega (arith, last_rank i h c.2.last, c.2.answers); most = omega (arith, c.0); steps = c.1 }

pub pass_first : (e : ℕ) (b : Body) → Swept e b → b.startup_iters < b.plan.settings.max_startup_iters → Counts (Pass 0) e (pass_begun b)
unfolding pass_begun rank_of
pass_first e b s h = (h, s.steps, record { last = omega arith; other = omega arith; answers = omega (arith, s.answers) })

-- ---- the steps
pub startup_done : (e : ℕ) (b : Body) → Swept e b → (b.startup_iters ≡ 0 → b.plan.settings.max_startup_iters ≡ 0) → SteppingBody 0 e (launched b)
unfolding launched start_track
startup_done e b s h = record { started = record { most = s.most; some = h }; four = omega arith; lower = omega (arith, s.answers); upper = omega (arith, s.answers) }

module _ (e : ℕ) (b : Body) where
  -- a further step is due, or the tail
  pub step_first : b.track.steps < b.plan.settings.max_steps → SteppingBody 0 e b → Counts (Step 0) e (predicted b)
  unfolding predicted
  step_first h s = (omega arith, h, s)

  pub tail_first : b.track.steps < b.plan.settings.max_steps → SteppingBody 0 e b → Counts (Tail First) e b
  tail_first h s = (h, s)

  -- one answer more in the open step
  one_more : (k : ℕ) → SteppingBody k e b → SteppingBody (k + 1) (e + 1) b
  one_more k s = record { started = s.started; four = s.four; lower = omega (arith, s.lower); upper = omega (arith, s.upper) }

  -- one more corrector pass
  pub step_again : (n : ℕ) (y : State) → n < b.plan.settings.max_corrector_iters → Counts (Step n) e b → Counts (Step (n + 1)) (e + 1) (tried b y)
  unfolding tried
  step_again n y h c = (omega arith, c.1, one_more n c.2)

  -- a step is made
  more : 4 ≤ b.track.steps → (b.track.steps + 1 - 4) * (1 + b.plan.settings.max_corrector_iters) ≡ (b.track.steps - 4) * (1 + b.plan.settings.max_corrector_iters) + (1 + b.plan.settings.max_corrector_iters)
  more h = let z : b.track.steps + 1 - 4 ≡ suc (b.track.steps - 4) = omega arith in ap (λ (k : ℕ). k * (1 + b.plan.settings.max_corrector_iters)) z ∙ suc-mul (b.track.steps - 4) (1 + b.plan.settings.max_corrector_iters)

  pub step_made : (n : ℕ) (y : State) (x : Triple) → Counts (Step n) e b → SteppingBody 0 (e + 1) (committed b y x)
  unfolding committed track_on
  step_made n y x c =
      let s = c.2 in
      record {
        started = s.started;
        four = omega (arith, s.four);
        lower = omega (arith, s.four, s.lower);
        upper = omega (arith, more s.four, s.upper, c.0);
      }

  -- the tail's questions
  pub tail_kept : (s : Stage) (x : Triple) → is_last s ≡ false → Counts (Tail s) e b → Counts (Tail (stage_after s)) (e + 1) (kept s b x)
  unfolding kept
  tail_kept s x h c = (c.0, subst (λ (k : ℕ). SteppingBody k (e + 1) b) (sym (one_further s h)) (one_more (stage_number s) c.1))

  pub tail_last : (y : State) → wants_samples b.plan.settings ≡ true → Counts (Tail Fourth) e b → Counts TailSample (e + 1) (tried b y)
  unfolding tried
  tail_last y w c = (w, c.0, one_more 3 c.1)
