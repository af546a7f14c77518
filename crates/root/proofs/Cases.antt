-- The cases of `root`: a number above zero by its pattern, and what the tests leave.
use mathlib.Core.Path.{◌≡◌, refl, sym, ap, ◌∙◌, subst}
use Prim.Native.Nat.{ℕ, zero, suc, ◌*◌, ◌^◌, ◌≤◌, ◌<◌}
use native.Mathlib.Nat.{lt_irrefl, not-le_of_lt}
use mathlib.Core.Bool.{true, false, not, true≢false, false≢true}
use lib.Dec.{T, lit<}
use lib.Ieee.{Float, nan, inf, fin, binary64, is_nan, lt, eq, to_bits}
use Rattle.double.specs.Doubles.{Double, nought}
use Rattle.double.proofs.Zeros.{Above, infinite, number, above, number_above, is_zero, zero_by}
use Rattle.root.specs.Root.{root_of, root_of_units}
use Rattle.root.specs.Parts.{units_of}
use Rattle.root.proofs.Read.{read}

-- ---- above zero
infinite_bits : to_bits binary64 (inf false) ≡ 0x7ff0_0000_0000_0000
unfolding to_bits
infinite_bits = refl

pub not_nan : (x : Float) → lt nought x ≡ true → T (not (is_nan x))
unfolding is_nan lt
not_nan nan p = absurd (false≢true p)
not_nan (inf s) p = tt
not_nan (fin s m e) p = tt

pub some_bits : (x : Float) → Double x → lt nought x ≡ true → 0 < to_bits binary64 x
some_bits x F p = go x F (above x p)
  where
    go : (x : Float) → Double x → Above x → 0 < to_bits binary64 x
    go _ F infinite = subst (λ (z : ℕ). 0 < z) (sym infinite_bits) (lit< tt)
    go _ F (number m e) = (read m e F).some

pub root_inf : (x : Float) → Double x → lt nought x ≡ true → 0x7ff0_0000_0000_0000 ≤ to_bits binary64 x → x ≡ root_of x
unfolding root_of
root_inf x F p h = go x F h (above x p)
  where
    go : (x : Float) → Double x → 0x7ff0_0000_0000_0000 ≤ to_bits binary64 x → Above x → x ≡ root_of x
    go _ F h infinite = refl
    go _ F h (number m e) = absurd (not-le_of_lt (read m e F).few h)

pub root_number : (x r : Float) → Double x → lt nought x ≡ true → to_bits binary64 x < 0x7ff0_0000_0000_0000 → r ≡ root_of_units (units_of (to_bits binary64 x) * 2 ^ 1074) → r ≡ root_of x
unfolding root_of
root_number x r F p h q = go x F h (above x p) q
  where
    go : (x : Float) → Double x → to_bits binary64 x < 0x7ff0_0000_0000_0000 → Above x → r ≡ root_of_units (units_of (to_bits binary64 x) * 2 ^ 1074) → r ≡ root_of x
    go _ F h infinite q = absurd (lt_irrefl 0x7ff0_0000_0000_0000 (subst (λ (z : ℕ). z < 0x7ff0_0000_0000_0000) infinite_bits h))
    go _ F h (number m e) q = q ∙ ap (λ (z : ℕ). root_of_units (z * 2 ^ 1074)) (sym (read m e F).units)

-- ---- the others
pub at_zero : (x : Float) → eq x nought ≡ true → x ≡ root_of x
unfolding root_of
at_zero x h = let (t, (e, p)) = zero_by x h in subst (λ (y : Float). y ≡ root_of y) (sym p) refl

pub elsewhere : (x : Float) → lt nought x ≡ false → eq x nought ≡ false → nan ≡ root_of x
unfolding root_of lt
elsewhere nan p q = refl
elsewhere (inf true) p q = refl
elsewhere (inf false) p q = absurd (true≢false p)
elsewhere (fin s zero e) p q = absurd (true≢false (sym (is_zero s e) ∙ q))
elsewhere (fin true (suc m) e) p q = refl
elsewhere (fin false (suc m) e) p q = absurd (true≢false (sym (number_above m e) ∙ p))
