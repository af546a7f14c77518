-- An answer stores five samples at most, whatever the run, so that the number of the next one does not wrap.
use mathlib.Core.Logic.{inl, inr}
use Prim.Native.Nat.{ℕ, ◌≤◌}
use native.Mathlib.Omega.{arith}
use lib.ListN.{length}
use Rattle.triple.specs.declared.Triple.{Triple}
use Rattle.run.specs.declared.Run.{Run}
use Rattle.run.specs.Samples.{Room}
use Rattle.gauss_jackson.specs.Answers.{answered}
use Rattle.gauss_jackson.specs.Stores.{IsNoneOneOrFive}
use Rattle.gauss_jackson.proofs.Stores.{stored_is_written}

at_most_five : (m : ℕ) → IsNoneOneOrFive m → m ≤ 5
at_most_five m (inl e) = omega arith
at_most_five m (inr (inl e)) = omega arith
at_most_five m (inr (inr e)) = omega arith

pub stored_few : (run : Run) (n : ℕ) (a : Triple) (out : Room) → (answered run n a out).got.stored ≤ 5
stored_few run n a out = let w = stored_is_written run n a out in omega (arith, w.told, at_most_five (length w.samples) w.few)
