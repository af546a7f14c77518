-- What `is_open_step` says: facts on the numbers that it takes, and that a run of these parts is sound and waits at a step's end.
use mathlib.Core.Path.{◌≡◌}
use Prim.Native.Nat.{ℕ, ◌%◌, ◌≤◌, ◌<◌}
use native.Mathlib.Omega.{arith}
use mathlib.Core.Bool.{true}
use lib.Dec.{eqb, leb}
use borrow.Author.Tests.{leb-true, eqb-true}
use Rattle.plan.specs.declared.Plan.{Plan}
use Rattle.plan.specs.Limits.{max_passes, max_steps}
use Rattle.plan.specs.Lawful.{is_lawful}
use Rattle.run.specs.declared.Mark.{Mark}
use Rattle.run.specs.declared.Run.{Run}
use Rattle.run.specs.declared.waiting.Waiting.TheVariants.{Step}
use Rattle.run.specs.Limits.{numbering, ample}
use Rattle.run.specs.Waiting.{waits_at, waiting_at}
use Rattle.run.specs.Sound.{step_counts, has_counts, is_sound, is_open_step}
use Rattle.run.proofs.Counts.{both, few, below, to_small}

record Opened (m : Mark) (p : Plan) (S n : ℕ) : Type 0 where
  pub at : m.at ≡ 6
  pub stage : leb m.stage 3 ≡ true
  pub lawful : is_lawful p ≡ true
  pub numbered : eqb m.count.number (m.count.evals % numbering) ≡ true
  pub passes : leb m.index p.settings.max_corrector_iters ≡ true
  pub counts : step_counts m.index m.count.evals p.settings S n ≡ true

-- no count wraps
pub record Few (m : Mark) (n : ℕ) : Type 0 where
  pub answers : m.count.evals < ample
  pub steps : n ≤ max_steps
  pub passes : m.index ≤ max_passes

module _ (m : Mark) (p : Plan) (S n : ℕ) (e : is_open_step m p S n ≡ true) where
  opened : Opened m p S n
  unfolding is_open_step
  opened =
      let h = both _ _ e in
      let k = both _ _ h.0 in
      let l = both _ _ k.0 in
      let o = both _ _ l.0 in
      let q = both _ _ o.0 in
      record { at = eqb-true _ _ q.0; stage = q.1; lawful = o.1; numbered = l.1; passes = k.1; counts = h.1 }

  pub open_few : Few m n
  open_few =
      let z = to_small p opened.lawful in
      let b = below _ _ p.settings S n opened.counts in
      let u : m.index ≤ p.settings.max_corrector_iters = leb-true _ _ opened.passes in
      record {
        answers = omega (arith, few p.settings n b.0 z, b.1.upper, b.1.started.most, z.startups, z.passes, u);
        steps = omega (arith, b.0, z.steps);
        passes = omega (arith, u, z.passes);
      }

waits_at_step : (m : Mark) → m.at ≡ 6 → leb m.stage 3 ≡ true → waits_at m ≡ Step m.index
unfolding waits_at waiting_at
waits_at_step m e f = rw (f, e)

module _ (run : Run) (e : is_open_step run.mark run.body.plan run.body.startup_iters run.body.track.steps ≡ true) where
  here : Opened run.mark run.body.plan run.body.startup_iters run.body.track.steps
  here = opened _ _ _ _ e

  pub open_at_step : waits_at run.mark ≡ Step run.mark.index
  open_at_step = waits_at_step _ here.at here.stage

  pub open_sound : is_sound run ≡ true
  unfolding is_sound has_counts
  open_sound = rw (here.lawful, here.numbered, open_at_step, here.passes) here.counts
