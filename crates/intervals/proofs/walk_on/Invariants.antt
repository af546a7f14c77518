-- `walk_on` is `walked_to`: the walk on from here ends where the walk from k does.
use Prim.Native.Nat.{◌-◌, ◌≤◌, max}
use mathlib.Core.Path.{◌≡◌}
use Rattle.intervals.specs.Intervals.{walk_on}
use Rattle.intervals.proofs.walk_on.Given as goal

abbrev pub invariant-loop-at : goal.invariant-loop-at
invariant-loop-at l = record {
  same : walk_on l.forward l.samples l.t (l.last - l.at) l.at ≡ walk_on l.forward l.samples l.t (l.last - l.k) l.k;
  within : l.at ≤ max l.k l.last;
}
