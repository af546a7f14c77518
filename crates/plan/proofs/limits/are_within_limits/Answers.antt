-- `are_within_limits` is `are_within_limits`.
use borrow.Author.Tests.{le-leb, lt-leb}
use Rattle.plan.specs.Limits.{are_within_limits}
use Rattle.plan.proofs.limits.are_within_limits.Goals as goal

pub returns-then-s-gt-MAX_PASSES : goal.returns-then-s-gt-MAX_PASSES
unfolding are_within_limits
returns-then-s-gt-MAX_PASSES c = simp (lt-leb _ _ c.if-s-gt-MAX_PASSES.true)

pub returns-then-s-gt-MAX_PASSES-2 : goal.returns-then-s-gt-MAX_PASSES-2
unfolding are_within_limits
returns-then-s-gt-MAX_PASSES-2 c = simp (le-leb _ _ c.if-s-gt-MAX_PASSES.false, lt-leb _ _ c.if-s-gt-MAX_PASSES-2.true)

pub returns-then-s-gt-MAX_FLAG : goal.returns-then-s-gt-MAX_FLAG
unfolding are_within_limits
returns-then-s-gt-MAX_FLAG c = simp (le-leb _ _ c.if-s-gt-MAX_PASSES.false, le-leb _ _ c.if-s-gt-MAX_PASSES-2.false, lt-leb _ _ c.if-s-gt-MAX_FLAG.true)

pub returns : goal.returns
unfolding are_within_limits
returns c =
    rw (le-leb _ _ c.if-s-gt-MAX_PASSES.false, le-leb _ _ c.if-s-gt-MAX_PASSES-2.false, le-leb _ _ c.if-s-gt-MAX_FLAG.false)
