-- The counts of a sound run fit four bytes.
use mathlib.Core.Path.{◌≡◌}
use Prim.Native.Nat.{ℕ, ◌≤◌}
use native.Mathlib.Omega.{arith}
use borrow.Author.Tests.{leb-true}
use mathlib.Core.Bool.{true, ◌&&◌}
use lib.Dec.{leb}
use Rattle.plan.specs.declared.Settings.{Settings}
use Rattle.plan.specs.Limits.{max_passes, max_steps, max_flag, are_within_limits}
use Rattle.run.specs.declared.Run.{Run}
use Rattle.run.specs.declared.Body.{Body}
use Rattle.run.specs.declared.waiting.Waiting.{Waiting}
use Rattle.run.specs.declared.waiting.Waiting.TheVariants.{Epoch, Forward, Backward, Survey, Pass, Step, Tail, TailSample, Ended, Unknown}
use Rattle.run.specs.Waiting.{waits_at}
use Rattle.run.specs.Sound.{is_sound}
use Rattle.run.specs.Ready.{Small}
use Rattle.run.proofs.Counts.{both, Counts, within, to_small, to_facts, most_evals, evals_few}

-- every count is below this
pub record Modest (run : Run) : Type 0 where
  pub correctors : run.body.plan.settings.max_corrector_iters ≤ max_passes
  pub startups : run.body.plan.settings.max_startup_iters ≤ max_passes
  pub most : run.body.plan.settings.max_steps ≤ max_steps
  pub passes : run.body.startup_iters ≤ max_passes
  pub steps : run.body.track.steps ≤ max_steps
  pub evals : run.mark.count.evals ≤ most_evals

passes_few : (w : Waiting) (e : ℕ) (b : Body) → Small b.plan.settings → Counts w e b → (b.startup_iters ≤ max_passes) × (b.track.steps ≤ max_steps)
passes_few Epoch e b s c = (omega arith, omega arith)
passes_few (Forward i t) e b s c = (omega arith, omega arith)
passes_few (Backward i t) e b s c = (omega arith, omega arith)
passes_few (Survey i) e b s c = (omega arith, omega arith)
passes_few (Pass i) e b s c = (omega (arith, s.startups), omega arith)
passes_few (Step n) e b s c = (omega (arith, s.startups, c.2.started.most), omega (arith, s.steps))
passes_few (Tail t) e b s c = (omega (arith, s.startups, c.1.started.most), omega (arith, s.steps))
passes_few TailSample e b s c = (omega (arith, s.startups, c.2.started.most), omega (arith, s.steps))
passes_few Ended e b s c = absurd c
passes_few Unknown e b s c = absurd c

pub modest : (run : Run) → is_sound run ≡ true → Modest run
modest run t =
    let f = to_facts run t in
    let s = to_small run.body.plan f.lawful in
    let p = passes_few (waits_at run.mark) run.mark.count.evals run.body s f.counted in
    record { correctors = s.passes; startups = s.startups; most = s.steps; passes = p.0; steps = p.1; evals = evals_few run t }

-- and so does the flag
flag_within : (s : Settings) → are_within_limits s ≡ true → s.samples ≤ max_flag
unfolding are_within_limits
flag_within s t =
    let passes = leb s.max_startup_iters max_passes && leb s.max_corrector_iters max_passes in
    let h = both (passes && leb s.samples max_flag) (leb s.max_steps max_steps) t in
    leb-true _ _ (both passes (leb s.samples max_flag) h.0).1

pub flag_small : (run : Run) → is_sound run ≡ true → run.body.plan.settings.samples ≤ max_flag
flag_small run t = flag_within run.body.plan.settings (within run.body.plan (to_facts run t).lawful)
