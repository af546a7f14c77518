-- `are_floats_zero`: triple after triple.
use mathlib.Core.Path.{◌≡◌}
use Prim.Native.Nat.{◌+◌, ◌*◌}
use Rattle.stored.specs.Taken.{unused_is_zero}
use Rattle.stored.proofs.judging.are_floats_zero.Given as goal

abbrev pub invariant-loop-q : goal.invariant-loop-q
invariant-loop-q l = l.zero ≡ unused_is_zero l.c l.u (6 * l.q + 6)
