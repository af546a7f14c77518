-- `search` is `first_past`: what is looked for from sample n on is what was looked for from the start.
use mathlib.Core.Path.{◌≡◌, sym, ◌∙◌}
use native.Mathlib.Nat.{sub-zero}
use native.Mathlib.Omega.{arith}
use Rattle.intervals.proofs.Loops.{past_on, past_here, past_end}
use Rattle.intervals.proofs.search.Goals as goal

pub loop-n-init : goal.loop-n-init
loop-n-init g c = rw sub-zero

pub returns-then-not-is_reached : goal.returns-then-not-is_reached
returns-then-not-is_reached g c = rw (← c.count_of-count.ensures) (sym (past_here _ _ _ _ _ c.loop-n-test.true (cc (c.if-not-is_reached.true))) ∙ c.loop-n.invariant)

pub loop-n-preserved : goal.loop-n-preserved
loop-n-preserved g c = sym (past_on _ _ _ _ _ c.loop-n-test.true (cc (c.if-not-is_reached.false))) ∙ c.loop-n.invariant

pub returns : goal.returns
returns g c =
    let e : c.count_of-count.result ≡ c.loop-n.n = omega arith in
    rw (← c.count_of-count.ensures) (e ∙ sym (past_end _ _ _ _ _ c.loop-n-test.false) ∙ c.loop-n.invariant)
