-- One turn of each search, said of the definition that the search works out.
use Prim.Native.Nat.{ℕ, suc, ◌+◌, ◌-◌, ◌<◌, ◌≤◌}
use mathlib.Core.Path.{◌≡◌}
use mathlib.Core.Bool.{Bool, true, false}
use mathlib.Core.List.{List}
use native.Mathlib.Omega.{arith}
use lib.Ieee.{Float}
use Rattle.intervals.specs.Table.{time_of}
use Rattle.intervals.specs.Intervals.{reached, first_past, is_short, walk_on}

one_left : (m n : ℕ) → n < m → m - n ≡ suc (m - (n + 1))
one_left m n h = omega arith

none_left : (m n : ℕ) → m ≤ n → m - n ≡ 0
none_left m n h = omega arith

-- ---- the first sample that fails
module _ (f : Bool) (l : List Float) (t : Float) (m n : ℕ) where
  pub past_on : n < m → reached f (time_of l n) t ≡ true → first_past f l t (m - n) n ≡ first_past f l t (m - (n + 1)) (n + 1)
  unfolding first_past
  past_on h e = rw (one_left m n h, e)

  pub past_here : n < m → reached f (time_of l n) t ≡ false → first_past f l t (m - n) n ≡ n
  unfolding first_past
  past_here h e = rw (one_left m n h, e)

  pub past_end : m ≤ n → first_past f l t (m - n) n ≡ n
  unfolding first_past
  past_end h = rw (none_left m n h)

  -- ---- the batch's walk
  pub walk_on_lem : n < m → is_short f (time_of l (n + 1)) t ≡ true → walk_on f l t (m - n) n ≡ walk_on f l t (m - (n + 1)) (n + 1)
  unfolding walk_on
  walk_on_lem h e = rw (one_left m n h, e)

  pub walk_here : n < m → is_short f (time_of l (n + 1)) t ≡ false → walk_on f l t (m - n) n ≡ n
  unfolding walk_on
  walk_here h e = rw (one_left m n h, e)

  pub walk_end : m ≤ n → walk_on f l t (m - n) n ≡ n
  unfolding walk_on
  walk_end h = rw (none_left m n h)
