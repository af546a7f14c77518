-- `interval_of` is `interval_of`: held to the last one is the smaller of two.
use Rattle.std.proofs.Common.{◌≡◌, ℕ, min, arith}
use Rattle.std.proofs.lemmas.Bool.Decides.{nat_tests}
use Rattle.intervals.specs.Intervals.{held_to, interval_of}
use Rattle.intervals.proofs.interval_of.Goals as goal

held_min : (last k : ℕ) → min k last ≡ held_to last k
unfolding held_to
held_min last k = grind (arith, nat_tests)

pub returns : goal.returns
unfolding interval_of
returns c = simp (c.min.ensures, held_min, ← c.last_interval-last.ensures, ← c.is_forward.ensures, ← c.first_past.ensures, ← c.saturating_sub-before.ensures)
