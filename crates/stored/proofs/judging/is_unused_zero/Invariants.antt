-- `is_unused_zero` is `unused_is_zero` over all words.
use mathlib.Core.Path.{◌≡◌}
use Rattle.stored.proofs.Unused.{rest_zero}
use Rattle.stored.proofs.judging.is_unused_zero.Given as goal

abbrev pub invariant-loop-word : goal.invariant-loop-word
invariant-loop-word l = l.zero ≡ rest_zero l.c l.initial.zero l.word-index
