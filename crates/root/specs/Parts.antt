-- What the functions on the way to the root ensure.
use Rattle.std.specs.Prelude.{◌≡◌, ℕ, zero, suc, ◌+◌, ◌-◌, ◌*◌, ◌/◌, ◌%◌, ◌^◌, ◌≤◌, ◌<◌}

-- r is the whole part of √n
pub record Floor (n r : ℕ) : Type 0 where
  pub low : r * r ≤ n
  pub high : n < (r + 1) * (r + 1)

-- a pattern's value in units of 2 ^ -1074, by its exponent's field and its digits, for one that is positive and finite
unfoldable pub units_at : ℕ → ℕ → ℕ
units_at zero t = t
units_at (suc x) t = (2 ^ 52 + t) * 2 ^ x

abbrev pub units_of : ℕ → ℕ
units_of b = units_at (b / 2 ^ 52) (b % 2 ^ 52)

-- the number of units whose root is asked for is m * 2 ^ (2 * h)
pub record Evened (b m h : ℕ) : Type 0 where
  pub low : 2 ^ 52 ≤ m
  pub high : m + 2 ≤ 2 ^ 54
  pub least : 511 ≤ h
  pub most : h < 1600
  pub value : units_of b * 2 ^ 1074 ≡ m * (2 ^ h * 2 ^ h)

-- q has 53 digits, and √n lies between the half-way points beside q * 2 ^ k: (2 q - 1) * 2 ^ k < 2 √n < (2 q + 1) * 2 ^ k
pub record Between (n q k : ℕ) : Type 0 where
  pub low : 2 ^ 52 ≤ q
  pub high : q < 2 ^ 53
  pub least : 1 ≤ k
  pub most : k < 1600
  pub below : (2 * q - 1) * 2 ^ k * ((2 * q - 1) * 2 ^ k) < 4 * n
  pub above : 4 * n < (2 * q + 1) * 2 ^ k * ((2 * q + 1) * 2 ^ k)
  pub edge : 2 ^ 52 * 2 ^ k * (2 ^ 52 * 2 ^ k) ≤ n

-- r is the pattern of such q * 2 ^ k units
pub record Rounded (n r : ℕ) : Type 0 where
  pub q : ℕ
  pub k : ℕ
  pub is : r ≡ k * 2 ^ 52 + q
  pub between : Between n q k
