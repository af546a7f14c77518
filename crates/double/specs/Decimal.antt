-- A decimal as the module's text writes it: digits with a point after the first of them, and a power of ten. `1_004 e- 5` is 1.004e-05. proofs/Decimals.antt has more.
use Rattle.std.specs.Prelude.{ℕ, zero, suc, ◌+◌, ◌*◌, ◌/◌, ◌^◌, Bool, true, false, ltb, pos}
use Rattle.double.specs.Fraction.{Fraction}

-- how many digits follow the first, if they are n at most; b says whether there is the first alone
abbrev pub further_digits : ℕ → Bool → ℕ → ℕ
further_digits zero b digits = 0
further_digits (suc n) true digits = 0
further_digits (suc n) false digits = suc (further_digits n (ltb (digits / 10) 10) (digits / 10))

-- how many stand after the point
abbrev pub places : ℕ → ℕ
places digits = further_digits digits (ltb digits 10) digits

-- the digits with that point, times 10 ^ -n; times 10 ^ n
infix 75 ◌e-◌ ◌e+◌
abbrev pub ◌e-◌ : ℕ → ℕ → Fraction
digits e- n = record { over = pos digits; under = 10 ^ (places digits + n) }

abbrev pub ◌e+◌ : ℕ → ℕ → Fraction
digits e+ n = record { over = pos (digits * 10 ^ n); under = 10 ^ places digits }
