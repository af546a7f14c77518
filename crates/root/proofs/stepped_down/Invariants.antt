-- `root::stepped_down` meets its contract. The invariant: m is below the square of r + 1.
use Prim.Native.Nat.{◌+◌, ◌*◌, ◌^◌, ◌≤◌, ◌<◌}
use Rattle.root.proofs.stepped_down.Given as goal

abbrev pub invariant-loop-r : goal.invariant-loop-r
invariant-loop-r l = (l.m < (l.r + 1) * (l.r + 1)) × (l.r ≤ 2 ^ 29)

abbrev pub decreases-loop-r : goal.decreases-loop-r
decreases-loop-r l = l.r
