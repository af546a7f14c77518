-- Decimal digits counted.
use mathlib.Core.Path.{◌≡◌, refl, sym}
use Prim.Native.Nat.{ℕ, zero, suc, ◌+◌, ◌*◌, ◌/◌, ◌^◌, ◌≤◌, ◌<◌}
use native.Mathlib.Nat.{pow-suc, pow-le-pow_right}
use native.Mathlib.Omega.{arith}
use mathlib.Core.Bool.{Bool, true, false, cond}
use lib.Dec.{ltb}
use borrow.Author.Tests.{lt-ltb, le-ltb}
use Rattle.std.proofs.Common.{Option, None, Some}
use Rattle.std.specs.Option.{IfNone, IfSome, unwrap_or}
use Rattle.lines.specs.Digits.{places}

-- as many as a power of ten has, that is not above the number, and the next one is
one_place : (m n : ℕ) → n < 10 → places m n ≡ 1
unfolding places
one_place zero n h = refl
one_place (suc m) n h = rw (lt-ltb _ _ h) refl

counted : (m k n : ℕ) → k ≤ m → 10 ^ k ≤ n → n < 10 * 10 ^ k → places m n ≡ k + 1
unfolding places
counted m zero n h low high = one_place m n (omega arith)
counted zero (suc k) n h low high = absurd (omega arith)
counted (suc m) (suc k) n h low high = by_power (counted m k (n / 10))
  where
    by_power : (k ≤ m → 10 ^ k ≤ n / 10 → n / 10 < 10 * 10 ^ k → places m (n / 10) ≡ k + 1) → places (suc m) n ≡ suc k + 1
    by_power rest =
        let l : 10 ^ k * 10 ≤ n = rw pow-suc at low in
        let u : n < 10 * (10 ^ k * 10) = rw pow-suc at high in
        let p : 1 ≤ 10 ^ k = pow-le-pow_right (omega arith) {i = 0} {j = k} (omega arith) in
        let t : 10 ≤ n = omega arith in
        let r : places m (n / 10) ≡ k + 1 = rest (omega arith) (omega arith) (omega arith) in
        rw (le-ltb _ _ t, r) (omega arith)

pub by_logarithm : (n : ℕ) (r : Option ℕ) → IfNone r (n ≡ 0) → IfSome r (λ k. 10 ^ k ≤ n) → IfSome r (λ k. n < 10 * 10 ^ k) → IfSome r (λ k. k < 20)
    → (unwrap_or r 0 + 1 ≡ places 19 n) × (unwrap_or r 0 + 1 ≤ 20)
by_logarithm n None z low high few = (sym (one_place 19 n (omega arith)), omega arith)
by_logarithm n (Some k) z low high few = (sym (counted 19 k n (omega arith) low high), omega arith)

-- so many at most
pub few_places : (k n : ℕ) → places k n ≤ k + 1
unfolding places
few_places zero n = omega arith
few_places (suc k) n = go (ltb n 10) (few_places k (n / 10))
  where
    go : (d : Bool) → places k (n / 10) ≤ k + 1 → cond d 1 (suc (places k (n / 10))) ≤ suc k + 1
    go true h = omega arith
    go false h = omega arith
