-- Exact fractions: the exact number that a float is, and what it means that two of them are near each other.
use Rattle.std.specs.Prelude.{ℕ, ◌*◌, ◌≤◌, ◌<◌, true, false, ℤ, pos, neg_ℤ, nat_abs, ◌+ℤ◌, ◌-ℤ◌, ◌*ℤ◌, Float}
use Rattle.std.specs.Float.{nan, inf, fin}
use Rattle.std.specs.Float.Ieee.{up, down}

-- over / under; where under is 0 it is no number
pub record Fraction : Type 0 where
  pub over : ℤ
  pub under : ℕ

abbrev pub whole : ℤ → Fraction
whole z = record { over = z; under = 1 }

infix 70 minus◌
abbrev pub minus◌ : Fraction → Fraction
minus x = record { over = neg_ℤ x.over; under = x.under }

infixl 6 ◌⊕◌ ◌⊖◌
abbrev pub ◌⊕◌ : Fraction → Fraction → Fraction
x ⊕ y = record { over = x.over *ℤ pos y.under +ℤ y.over *ℤ pos x.under; under = x.under * y.under }

abbrev pub ◌⊖◌ : Fraction → Fraction → Fraction
x ⊖ y = record { over = x.over *ℤ pos y.under -ℤ y.over *ℤ pos x.under; under = x.under * y.under }

-- `fin s m e` is m * 2 ^ e, and 2 ^ e is up e / down e; a NaN and an infinity are no number
abbrev pub exact : Float → Fraction
exact nan = record { over = pos 0; under = 0 }
exact (inf s) = record { over = pos 0; under = 0 }
exact (fin true m e) = record { over = neg_ℤ (pos (m * up e)); under = down e }
exact (fin false m e) = record { over = pos (m * up e); under = down e }

-- x and y are numbers, and |x - y| ≤ p / q
pub record Within (x y : Fraction) (p q : ℕ) : Type 0 where
  pub numbers : 0 < (x ⊖ y).under
  pub near : nat_abs (x ⊖ y).over * q ≤ p * (x ⊖ y).under

-- |x| < |y|, of numbers
abbrev pub Smaller : Fraction → Fraction → Type 0
Smaller x y = nat_abs x.over * y.under < nat_abs y.over * x.under
