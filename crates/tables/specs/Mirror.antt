-- 01, "Tables": "For rows i and k of 0 to 8: A[i][k] = A[8-i][8-k]; B[i][k] = -B[8-i][8-k] for k not i; B[i][i] + B[8-i][8-i] is within 1e-15 of -1."
-- `a_rule` and `b_rule` in proofs/Rule.antt are the proofs.
use Rattle.std.specs.Prelude.{◌≡◌, ◌≢◌, ℕ, ◌-◌, ◌<◌, ◌^◌, negsuc}
use Rattle.std.specs.Float.Ieee.{neg}
use Rattle.tables.specs.Tables.{a_at, b_at}
use Rattle.double.specs.Fraction.{whole, ◌⊕◌, exact, Within}

abbrev pub RuleOfA : Type 0
RuleOfA = (i k : ℕ) → i < 9 → k < 9 → a_at i k ≡ a_at (8 - i) (8 - k)

-- `negsuc 0` is -1
pub record MirrorB (i k : ℕ) : Type 0 where
  pub off : k ≢ i → b_at i k ≡ neg (b_at (8 - i) (8 - k))
  pub diagonal : k ≡ i → Within (exact (b_at i i) ⊕ exact (b_at (8 - i) (8 - i))) (whole (negsuc 0)) 1 (10 ^ 15)

abbrev pub RuleOfB : Type 0
RuleOfB = (i k : ℕ) → i < 9 → k < 9 → MirrorB i k
