-- What the fast path stores and tells is what `answered` gives, its outcome in plain numbers.
use mathlib.Core.Path.{◌≡◌, sym, ap}
use Prim.Native.Nat.{ℕ}
use mathlib.Core.List.{List}
use lib.ListN.{length}
use lib.Ieee.{Float}
use Rattle.triple.specs.declared.Triple.{Triple}
use Rattle.triple.specs.declared.State.{State}
use Rattle.run.specs.declared.Mark.{Mark}
use Rattle.run.specs.declared.Run.{Run}
use Rattle.run.specs.Samples.{tens, numbers_of}
use Rattle.gauss_jackson.specs.Answers.{Given, answered}
use Rattle.fastpath.specs.declared.Look.{Look}
use Rattle.fastpath.specs.declared.Look.TheVariants.{Again, On}
use Rattle.fastpath.specs.Looking.{looked_at}
use Rattle.fastpath.specs.Moving.{asked_again, made_step, kept_step}
use Rattle.fastpath.proofs.SameAnswer.{same_again, same_on}
use Rattle.app.specs.Reply.{asks_for, reply_of, answer_reply, stepped_reply, tried_run, stepped_run}

module _ (run : Run) (number : ℕ) (a : Triple) (from : ℕ) (out : List Float) where
  abbrev look : Look
  look = looked_at run.mark run.body.plan run.body.track run.body.trial run.body.startup_iters number a from (length out)

  pub again_reply : (m : Mark) (y : State) → Again m y ≡ look
      → (asks_for (asked_again m y run.body.plan run.body.track run.body.trial).question 0 ≡ answer_reply (answered run number a (tens from out)).got)
      × (tried_run run (asked_again m y run.body.plan run.body.track run.body.trial) ≡ (answered run number a (tens from out)).got.run)
      × (out ≡ numbers_of (answered run number a (tens from out)).out)
  unfolding reply_of numbers_of
  again_reply m y e =
      let h = same_again run number a from out m y e in
      (sym (ap (λ (g : Given). answer_reply g.got) h), sym (ap (λ (g : Given). g.got.run) h), sym (ap (λ (g : Given). numbers_of g.out) h))

  pub on_reply : (m : Mark) (y : State) (n : ℕ) → On m y n ≡ look
      → (stepped_reply (made_step m y n run.body.plan run.body.track run.body.a a) ≡ answer_reply (answered run number a (tens from out)).got)
      × (stepped_run run (made_step m y n run.body.plan run.body.track run.body.a a) ≡ (answered run number a (tens from out)).got.run)
      × (kept_step y n run.body.plan run.body.track run.body.a a from out ≡ numbers_of (answered run number a (tens from out)).out)
  unfolding reply_of numbers_of
  on_reply m y n e =
      let h = same_on run number a from out m y n e in
      (sym (ap (λ (g : Given). answer_reply g.got) h), sym (ap (λ (g : Given). g.got.run) h), sym (ap (λ (g : Given). numbers_of g.out) h))
