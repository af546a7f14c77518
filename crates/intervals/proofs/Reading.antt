-- What a table has at n: a sample, or past the last one none.
use Prim.Native.Nat.{ℕ, ◌*◌, ◌/◌, ◌<◌, ◌≤◌}
use mathlib.Core.Path.{◌≡◌}
use mathlib.Core.List.{List}
use lib.ListN.{length}
use lib.Ieee.{Float}
use borrow.Author.Tests.{lt-ltb, le-ltb}
use Rattle.intervals.specs.Table.{count_of, ten, no_sample, sample_of}

module _ (l : List Float) (n : ℕ) where
  pub sample_here : n < length l / 10 → sample_of l n ≡ ten l (10 * n)
  unfolding sample_of count_of
  sample_here h = rw (lt-ltb n (length l / 10) h)

  pub no_sample_lem : length l / 10 ≤ n → sample_of l n ≡ no_sample
  unfolding sample_of count_of
  no_sample_lem h = rw (le-ltb n (length l / 10) h)
