-- `run_of`.
use native.Mathlib.Omega.{arith}
use Rattle.stored.specs.Taken.{run_of, counts_at}
use Rattle.stored.proofs.Known.{known}
use Rattle.stored.proofs.judging.run_of.Goals as goal

pub overflow_cast-mark : goal.overflow_cast-mark
overflow_cast-mark c = let k = known _ c.requires in omega (arith, k.at)

pub overflow_cast-mark-2 : goal.overflow_cast-mark-2
overflow_cast-mark-2 c = let k = known _ c.requires in omega (arith, k.index)

pub overflow_cast-mark-3 : goal.overflow_cast-mark-3
overflow_cast-mark-3 c = let k = known _ c.requires in omega (arith, k.stage)

pub overflow_cast-mark-4 : goal.overflow_cast-mark-4
overflow_cast-mark-4 c = let k = known _ c.requires in omega (arith, k.number)

pub overflow_cast-c : goal.overflow_cast-c
overflow_cast-c c = let k = known _ c.requires in omega (arith, k.flag)

pub returns : goal.returns
unfolding run_of counts_at
returns c = simp (c.body_from-body.ensures, c.triples_in.ensures, c.counts_at-counts.ensures)
