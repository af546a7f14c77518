-- `write_all` is `written_all`: what is left to do here leaves what the whole leaves.
use mathlib.Core.Path.{◌≡◌}
use lib.ListN.{length, drop}
use Rattle.dense.specs.Interpolation.{written_all}
use Rattle.dense.proofs.writing.write_all.Given as goal

abbrev pub invariant-loop-j : goal.invariant-loop-j
invariant-loop-j l = (length l.out ≡ length l.initial.out) × (written_all l.samples l.j l.k (drop l.j l.times) l.out ≡ written_all l.samples 0 0 l.times l.initial.out)
