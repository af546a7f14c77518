-- `weighted` is `weighted`: the sum so far is that of the terms passed.
use native.Mathlib.Numerals.{add-one}
use lib.Ieee.{nan}
use Rattle.std.proofs.Common.{length-append}
use Rattle.std.proofs.lemmas.Slice.Zip.{zip_turn, zip_end}
use Rattle.sums.specs.Weighted.{weighted}
use Rattle.sums.proofs.weighted.Goals as goal

pub loop-b-init : goal.loop-b-init
unfolding weighted
loop-b-init c = c.zero-sum.ensures

pub loop-b-preserved : goal.loop-b-preserved
unfolding weighted
loop-b-preserved c =
    let t = zip_turn c.args.a.now c.args.row.now _ c.into_iter-b-iterator.result c.loop-b.b-iterator c.next.new.self _ (cc) (cc) c.loop-b.yielded_by _ c.in-Some.is c.next.ensures.steps in
    simp (length-append, add-one) (cc (t.2 _, t.3 nan))

pub returns : goal.returns
returns c =
    let e = zip_end c.args.a.now c.args.row.now _ c.into_iter-b-iterator.result c.loop-b.b-iterator c.next.new.self _ (cc) (cc) c.loop-b.yielded_by c.in-None.is c.next.ensures.steps in
    rw (← e) c.loop-b.invariant
