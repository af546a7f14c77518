-- A test at each number below n, computed once, and the law that gives it at one of them.
use Prim.Native.Nat.{ℕ, zero, suc, ◌<◌}
use native.Mathlib.Nat.{le_of_suc-le-suc, not-suc-le-zero}
use mathlib.Core.Bool.{Bool, true, ◌&&◌}
use lib.Dec.{T}
use lib.Ieee.Fits.{and_l, and_r}

abbrev pub every : ℕ → (ℕ → Bool) → Bool
every zero f = true
every (suc n) f = f zero && every n (λ k. f (suc k))

pub one : (n : ℕ) (f : ℕ → Bool) → T (every n f) → (k : ℕ) → k < n → T (f k)
one zero f t k h = absurd (not-suc-le-zero h)
one (suc n) f t zero h = and_l (f zero) (every n (λ k. f (suc k))) t
one (suc n) f t (suc k) h = one n (λ k. f (suc k)) (and_r (f zero) (every n (λ k. f (suc k))) t) k (le_of_suc-le-suc h)

-- at each pair
pub two : (n m : ℕ) (f : ℕ → ℕ → Bool) → T (every n (λ i. every m (f i))) → (i k : ℕ) → i < n → k < m → T (f i k)
two n m f t i k hi hk = one m (f i) (one n (λ i. every m (f i)) t i hi) k hk
