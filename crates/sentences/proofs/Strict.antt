-- What one strict test tells of the other tests of the same floats.
use Prim.Native.Nat.{ℕ, ◌+◌, ◌*◌, ◌<◌}
use mathlib.Core.Path.{◌≡◌, refl, sym, ◌∙◌}
use mathlib.Core.Bool.{Bool, true, false, ◌||◌, ◌&&◌}
use native.Mathlib.Omega.{arith}
use native.Mathlib.Nat.{le_refl}
use lib.Dec.{ltb, eqb}
use lib.Ieee.{Float, nan, inf, fin, up, down, below, level, lt, eq, le}
use borrow.Author.Tests.{le-ltb, ltb-true, eqb-true, eq-eqb, ne_eqb}
use Rattle.double.proofs.Nans.{none_below}
use Rattle.intervals.specs.Intervals.{reached, is_short}

pub clash : {A : Type 0} → false ≡ true → A
clash e = let z : ◌≡◌ {A = ℕ} 0 1 = cc in absurd (omega arith)

lt_le : (x y : Float) → lt x y ≡ true → le x y ≡ true
unfolding le
lt_le x y h = rw h

-- ---- ±a strictly below ±b
neither : (p q : Bool) → (p ≡ true → q ≡ true → ⊥) → (p && q) ≡ false
neither true true n = absurd (n refl refl)
neither true false n = refl
neither false q n = refl

not_above : (a b : ℕ) → a < b → (ltb b a || (eqb b a && true)) ≡ false
not_above a b h = rw (le-ltb b a (omega arith), ne_eqb b a (λ e. omega arith))

not_both_zero : (a b : ℕ) → 0 < a + b → (eqb b a && eqb b 0) ≡ false
not_both_zero a b h =
    neither (eqb b a) (eqb b 0) (λ p q. let e : b ≡ a = eqb-true b a p in let z : b ≡ 0 = eqb-true b 0 q in omega arith)

numbers_apart : (s : Bool) (a : ℕ) (t : Bool) (b : ℕ) → below s a t b ≡ true → (below t b s a || level t b s a) ≡ false
numbers_apart false a false b h = not_above a b (ltb-true a b h)
numbers_apart false a true b h = clash h
numbers_apart true a false b h = not_both_zero a b (ltb-true 0 (a + b) h)
numbers_apart true a true b h = turned (ltb-true b a h)
  where
    turned : b < a → (ltb a b || (eqb b a && true)) ≡ false
    turned l = rw (le-ltb a b (omega arith), ne_eqb b a (λ e. omega arith))

-- strictly below is not at or above
apart : (x y : Float) → lt x y ≡ true → le y x ≡ false
unfolding lt eq le
apart nan y h = clash h
apart (inf s) nan h = clash h
apart (inf true) (inf true) h = clash h
apart (inf true) (inf false) h = refl
apart (inf false) (inf t) h = clash h
apart (inf true) (fin t n d) h = refl
apart (inf false) (fin t n d) h = clash h
apart (fin s m e) nan h = clash h
apart (fin s m e) (inf true) h = clash h
apart (fin s m e) (inf false) h = refl
apart (fin s m e) (fin t n d) h = numbers_apart s (m * up e * down d) t (n * up d * down e) h

-- ---- a float and itself
same : (x : Float) → lt x x ≡ false
unfolding lt
same nan = refl
same (inf true) = refl
same (inf false) = refl
same (fin true m e) = le-ltb (m * up e * down e) (m * up e * down e) (le_refl (m * up e * down e))
same (fin false m e) = le-ltb (m * up e * down e) (m * up e * down e) (le_refl (m * up e * down e))

alike : (a : ℕ) → (ltb a a || (eqb a a && true)) ≡ true
alike a = rw (le-ltb a a (le_refl a), eq-eqb a a refl)

-- it reaches itself where it compares with anything
own : (x y : Float) → lt x y ≡ true → le x x ≡ true
unfolding lt eq le
own nan y h = clash h
own (inf true) y h = refl
own (inf false) y h = refl
own (fin true m e) y h = alike (m * up e * down e)
own (fin false m e) y h = alike (m * up e * down e)

own_too : (x y : Float) → lt x y ≡ true → le y y ≡ true
unfolding lt eq le
own_too x nan h = clash (sym (none_below x) ∙ h)
own_too x (inf true) h = refl
own_too x (inf false) h = refl
own_too x (fin true m e) h = alike (m * up e * down e)
own_too x (fin false m e) h = alike (m * up e * down e)

-- ---- the same, in the table's direction
module _ (f : Bool) (x y : Float) where
  pub short_reaches : is_short f x y ≡ true → reached f x y ≡ true
  unfolding is_short reached
  short_reaches h = by f h
    where
      by : (b : Bool) → is_short b x y ≡ true → reached b x y ≡ true
      by true h = lt_le x y h
      by false h = lt_le y x h

  pub short_fails : is_short f x y ≡ true → reached f y x ≡ false
  unfolding is_short reached
  short_fails h = by f h
    where
      by : (b : Bool) → is_short b x y ≡ true → reached b y x ≡ false
      by true h = apart x y h
      by false h = apart y x h

  pub short_own : is_short f x y ≡ true → reached f x x ≡ true
  unfolding is_short reached
  short_own h = by f h
    where
      by : (b : Bool) → is_short b x y ≡ true → reached b x x ≡ true
      by true h = own x y h
      by false h = own_too y x h

pub not_short : (f : Bool) (x : Float) → is_short f x x ≡ false
unfolding is_short
not_short true x = same x
not_short false x = same x
