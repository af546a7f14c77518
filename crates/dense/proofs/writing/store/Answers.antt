-- `store` is `written`: its numbers, one after the other.
use borrow.Author.Rules.{rules}
use lib.ListN.{length-set}
use borrow.Author.Tests.{lt-ltb, le-ltb}
use Rattle.dense.specs.Interpolation.{written}
use Rattle.dense.proofs.writing.store.Goals as goal

pub bounds-out-p-then-j-out : goal.bounds-out-p-then-j-out
bounds-out-p-then-j-out c = simp length-set (search rules)

pub bounds-out-p-then-j-out-2 : goal.bounds-out-p-then-j-out-2
bounds-out-p-then-j-out-2 c = simp length-set (search rules)

pub bounds-out-p-then-j-out-3 : goal.bounds-out-p-then-j-out-3
bounds-out-p-then-j-out-3 c = simp length-set (search rules)

pub bounds-out-p-then-j-out-4 : goal.bounds-out-p-then-j-out-4
bounds-out-p-then-j-out-4 c = simp length-set (search rules)

pub bounds-out-p-then-j-out-5 : goal.bounds-out-p-then-j-out-5
bounds-out-p-then-j-out-5 c = simp length-set (search rules)

pub bounds-out-p-then-j-out-6 : goal.bounds-out-p-then-j-out-6
bounds-out-p-then-j-out-6 c = simp length-set (search rules)

pub bounds-out-p-then-j-out-7 : goal.bounds-out-p-then-j-out-7
bounds-out-p-then-j-out-7 c = simp length-set (search rules)

pub bounds-out-p-then-j-out-8 : goal.bounds-out-p-then-j-out-8
bounds-out-p-then-j-out-8 c = simp length-set (search rules)

pub shape_of-out : goal.shape_of-out
shape_of-out c = simp length-set

pub returns-then-j-out : goal.returns-then-j-out
unfolding written
returns-then-j-out c = simp (lt-ltb _ _ c.if-j-out.true)

pub returns-else-j-out : goal.returns-else-j-out
unfolding written
returns-else-j-out c = simp (le-ltb _ _ c.if-j-out.false)
