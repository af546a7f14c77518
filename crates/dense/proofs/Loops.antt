-- One turn of each loop, said of the definition that the loop works out.
use Prim.Native.Nat.{ℕ, ◌+◌, ◌*◌, ◌/◌, ◌<◌, ◌≤◌}
use mathlib.Core.Path.{◌≡◌, refl}
use mathlib.Core.Bool.{Bool, true, false}
use mathlib.Core.List.{List, ◌∷◌}
use native.Mathlib.Omega.{arith}
use native.Mathlib.Numerals.{add-one}
use lib.Dec.{ltb}
use lib.ListN.{length, get_or, drop, drop_of_length-le}
use lib.Seq.{drop-cons}
use lib.Ieee.{Float, nan}
use borrow.Author.Tests.{lt-ltb, le-ltb, ltb-true, ltb-false}
use Rattle.intervals.specs.Intervals.{walked_to}
use Rattle.dense.specs.Interpolation.{between_numbers, value_at, written, written_all}

-- ---- the times that are written
module _ (times : List Float) (j : ℕ) (h : j < length times) where
  next : drop j times ≡ get_or times j nan ∷ drop (j + 1) times
  next = rw add-one (drop-cons times j nan h)

  pub put_on : (l : List Float) (k : ℕ) (out : List Float) →
      written_all l j k (drop j times) out ≡ written_all l (j + 1) (walked_to l (get_or times j nan) k) (drop (j + 1) times) (written j (value_at l (walked_to l (get_or times j nan) k) (get_or times j nan)) out)
  unfolding written_all
  put_on l k out = rw next

module _ (times : List Float) (j : ℕ) (h : length times ≤ j) where
  pub put_end : (l : List Float) (k : ℕ) (out : List Float) → written_all l j k (drop j times) out ≡ out
  unfolding written_all
  put_end l k out = rw (drop_of_length-le times h)

-- ---- room: times that fit, said by the quotient and by the product
pub room_is : (room times : ℕ) → ltb (room / between_numbers) times ≡ ltb room (between_numbers * times)
room_is room times = by (ltb room (between_numbers * times)) (λ e. ltb-true room (between_numbers * times) e) (λ e. ltb-false room (between_numbers * times) e)
  where
    by : (b : Bool) → (b ≡ true → room < between_numbers * times) → (b ≡ false → between_numbers * times ≤ room) → ltb (room / between_numbers) times ≡ b
    by true t f = let h : room < between_numbers * times = t refl in lt-ltb (room / between_numbers) times (omega arith)
    by false t f = let h : between_numbers * times ≤ room = f refl in le-ltb (room / between_numbers) times (omega arith)
