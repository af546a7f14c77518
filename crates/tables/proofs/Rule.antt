-- The rule of the tables at every entry: for each table one test, computed over rows and columns 0 to 8, and one law.
use mathlib.Core.Path.{◌≡◌}
use Prim.Native.Nat.{ℕ, ◌-◌, ◌*◌, ◌^◌}
use mathlib.Core.Bool.{Bool, true, false, ◌&&◌, cond}
use lib.Dec.{T, eqb, ltb, leb, eqb→eq, ltb→lt, leb→le}
use lib.IntN.{negsuc, nat_abs}
use lib.Ieee.{Float, binary64, neg, round, to_bits}
use lib.Ieee.Fits.{and_l, and_r, eq→eqb}
use Rattle.tables.specs.Tables.{a_decimal, b_decimal, coefficient_at, a_at, b_at}
use Rattle.double.specs.Fraction.{Fraction, whole, ◌⊕◌, ◌⊖◌, exact, Within}
use Rattle.double.specs.Nearest.{nearest_double}
use Rattle.double.proofs.Patterns.{bits_tell, double_neg}
use Rattle.tables.specs.Mirror.{RuleOfA, MirrorB, RuleOfB}
use Rattle.tables.proofs.Every.{two}
use Rattle.tables.proofs.Same.{a_double, b_double}

-- ---- two fractions are near

within : Fraction → Fraction → ℕ → ℕ → Bool
within x y p q = let d = x ⊖ y in ltb 0 d.under && leb (nat_abs d.over * q) (p * d.under)

within→Within : (x y : Fraction) (p q : ℕ) → T (within x y p q) → Within x y p q
unfolding within
within→Within x y p q t =
    let d = x ⊖ y in
    let a = ltb 0 d.under in
    let b = leb (nat_abs d.over * q) (p * d.under) in
    record { numbers = ltb→lt 0 d.under (and_l a b t); near = leb→le (nat_abs d.over * q) (p * d.under) (and_r a b t) }

-- ---- table A

a_test : ℕ → ℕ → Bool
a_test i k = eqb (to_bits binary64 (a_at i k)) (to_bits binary64 (a_at (8 - i) (8 - k)))

pub a_rule : RuleOfA
unfolding a_test a_at coefficient_at nearest_double a_decimal round to_bits
a_rule i k hi hk = bits_tell (a_at i k) (a_at (8 - i) (8 - k)) (a_double i k) (a_double (8 - i) (8 - k)) (two 9 9 a_test tt i k hi hk)

-- ---- table B

b_near : ℕ → Bool
unfolding within
b_near i = within (exact (b_at i i) ⊕ exact (b_at (8 - i) (8 - i))) (whole (negsuc 0)) 1 (10 ^ 15)

b_same : ℕ → ℕ → Bool
b_same i k = eqb (to_bits binary64 (b_at i k)) (to_bits binary64 (neg (b_at (8 - i) (8 - k))))

b_test : ℕ → ℕ → Bool
unfolding b_near b_same
b_test i k = cond (eqb k i) (b_near i) (b_same i k)

pub b_rule : RuleOfB
unfolding b_test b_at coefficient_at nearest_double b_decimal round neg to_bits
b_rule i k hi hk = go (eqb k i) (eqb→eq k i) (λ (e : k ≡ i). eq→eqb e) (two 9 9 b_test tt i k hi hk)
  where
    other : Float
    other = b_at (8 - i) (8 - k)

    go : (d : Bool) → (T d → k ≡ i) → (k ≡ i → T d) → T (cond d (b_near i) (b_same i k)) → MirrorB i k
    go true f g t = record { off = λ h. absurd (h (f tt)); diagonal = λ e. within→Within (exact (b_at i i) ⊕ exact (b_at (8 - i) (8 - i))) (whole (negsuc 0)) 1 (10 ^ 15) t }
    go false f g t = record { off = λ h. bits_tell (b_at i k) (neg other) (b_double i k) (double_neg other (b_double (8 - i) (8 - k))) t; diagonal = λ e. absurd (g e) }
