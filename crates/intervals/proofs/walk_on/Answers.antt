-- `walk_on` is `walked_to`: the walk on from here ends where the walk from k does.
use mathlib.Core.Path.{◌≡◌, sym, ◌∙◌}
use native.Mathlib.Omega.{arith}
use Rattle.intervals.proofs.Loops.{walk_on_lem, walk_here, walk_end}
use Rattle.intervals.specs.Intervals.{walked_to}
use Rattle.intervals.proofs.walk_on.Goals as goal

pub returns-then-not-is_short : goal.returns-then-not-is_short
unfolding walked_to
returns-then-not-is_short c = rw (← c.is_forward-forward.ensures, ← c.last_interval-last.ensures) (sym (walk_here _ _ _ _ _ c.loop-at-test.true (cc (c.if-not-is_short.true))) ∙ c.loop-at.invariant.same)

pub loop-at-preserved : goal.loop-at-preserved
loop-at-preserved c = record {
  same = sym (walk_on_lem _ _ _ _ _ c.loop-at-test.true (cc (c.if-not-is_short.false))) ∙ c.loop-at.invariant.same;
  within = omega arith;
}

pub returns : goal.returns
unfolding walked_to
returns c =
    let e : c.max.result ≡ c.loop-at.at = omega arith in
    rw (← c.is_forward-forward.ensures, ← c.last_interval-last.ensures) (e ∙ sym (walk_end _ _ _ _ _ c.loop-at-test.false) ∙ c.loop-at.invariant.same)
