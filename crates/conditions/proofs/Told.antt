-- Mean squares that are far enough apart tell whether the quotient of their roots is below the tolerance: p is that of the change, q that of the new value.
use mathlib.Core.Path.{◌≡◌, refl, sym, ap, ◌∙◌, subst}
use Prim.Native.Nat.{ℕ, ◌+◌, ◌*◌, ◌^◌, ◌≤◌, ◌<◌}
use native.Mathlib.Nat.{le_trans, le_of_eq, lt_trans, lt_of_lt_of_le, le_of_mul-le-mul_right, mul_assoc, mul-le-mul_left, mul-pos}
use native.Mathlib.Omega.{arith}
use mathlib.Core.Bool.{Bool, true, false, not, cond, true≢false, false≢true}
use lib.Dec.{T, leb, leb→le, nleb→lt, eqb, lit≤, lit<}
use lib.Pow.{pow_pos}
use lib.Ieee.{Float, nan, inf, fin, binary64, round, add, mul, div, lt}
use lib.Ieee.Fits.{mul-fits}
use lib.Ieee.Scale.{grid, round_val}
use borrow.Author.Tests.{lt-ltb}
use Rattle.double.specs.Doubles.{Double}
use Rattle.double.specs.Units.{units_in, NotNegative}
use Rattle.double.proofs.Signs.{Plain}
use Rattle.double.proofs.Nans.{none_below}
use Rattle.double.proofs.Near.{near}
use Rattle.double.proofs.Units.{Units, own_units, mul_units, div_units, lt_units, below_tells, not_below_rounded}
use Rattle.root.specs.Root.{root_of}
use Rattle.root.proofs.Nearest.{double_root}
use Rattle.root.proofs.Squares.{root_about}
use Rattle.triple.specs.Size.{tiny}
use Rattle.conditions.specs.Usual.{is_usual}
use Rattle.conditions.proofs.Chains.{few, below, many, not_below}
use Rattle.conditions.proofs.Bounds.{Usual, usual, Limit, limit, Sized, sized}

-- the quotient, and the limit that its square is held to
abbrev pub quotient : Float → Float → Float
quotient p q = div binary64 (root_of p) (add binary64 (root_of q) tiny)

abbrev pub limit_of : Float → Float → Float
limit_of tol q = mul binary64 (mul binary64 q tol) tol

-- x times a k of 2 or more is below y: then twice x is y at most
twice_at_most : (x k y : Float) (a b : ℕ) → Units x a → Double k → NotNegative k → 2 * 2 ^ 1074 ≤ units_in k → Double y → Units y b → lt (mul binary64 x k) y ≡ true → 2 * a ≤ b
twice_at_most x k y a b X F N two G Y h =
    let u = 2 ^ 1074 in
    let K = units_in k in
    let c = below_tells (a * K) (u * u) y b (mul-pos (pow_pos 1074) (pow_pos 1074)) G Y (subst (λ (z : Float). lt z y ≡ true) (mul_units x k a K X (own_units k F N)) h) in
    let d : a * K ≤ b * u = le_of_mul-le-mul_right (le_trans c (le_of_eq (sym (mul_assoc b u u)))) (pow_pos 1074) in
    le_of_mul-le-mul_right (le_trans (le_of_eq (turn a u)) (le_trans (mul-le-mul_left a two) d)) (pow_pos 1074)
  where
    turn : (a u : ℕ) → 2 * a * u ≡ a * (2 * u)
    turn a u = omega arith

-- fewer units than the tolerance has: no more than 32, or within one part in 63 of what they are rounded from
fewer : (A B D t : ℕ) → 5 * (A * 2 ^ 1074) ≤ 4 * (B * t) → 64 * B ≤ 65 * D → 0 < D → 32 < t → grid binary64 A D < t
fewer A B D t h d z p = go (leb 32 (grid binary64 A D)) (leb→le 32 (grid binary64 A D)) (nleb→lt 32 (grid binary64 A D))
  where
    go : (b : Bool) → (T b → 32 ≤ grid binary64 A D) → (T (not b) → grid binary64 A D < 32) → grid binary64 A D < t
    go true f g = below A B D (grid binary64 A D) t (2 ^ 1074) h d (near A D z (f tt)).high z (some t p)
      where
        some : (t : ℕ) → 32 < t → 0 < t
        some t p = omega arith
    go false f g = less (grid binary64 A D) t (g tt) p
      where
        less : (g t : ℕ) → g < 32 → 32 < t → g < t
        less g t l p = omega arith

module _ (tol q k : Float) (F : Double tol) (G : Double q) (u : is_usual tol q ≡ true) (K : Double k) (N : NotNegative k) (two : 2 * 2 ^ 1074 ≤ units_in k) where
  U : Usual tol q
  U = usual tol q F G u

  S : Sized q
  S = sized tol q G U

  L : Limit tol q
  L = limit tol q F G U

  tolerance : Units tol (units_in tol)
  tolerance = own_units tol F U.tol_plus

  quotient_is : (p : Float) → Double p → (P : NotNegative p) → quotient p q ≡ round binary64 false (units_in (root_of p)) S.D
  quotient_is p H P = div_units (root_of p) (add binary64 (root_of q) tiny) (units_in (root_of p)) S.D (own_units (root_of p) (double_root p H) (root_about p H P).0) S.are S.some

  -- ---- below
  number_below : (p : Float) → Double p → NotNegative p → lt (mul binary64 p k) (limit_of tol q) ≡ true → lt (quotient p q) tol ≡ true
  number_below p H P h =
      let A = units_in (root_of p) in
      let B = units_in (root_of q) in
      let t = units_in tol in
      let a = twice_at_most p k (limit_of tol q) (units_in p) L.L (own_units p H P) K N two (mul-fits binary64 (mul binary64 q tol) tol) L.are h in
      let c = few (units_in p) (units_in q) t L.W L.L A B (2 ^ 1074) a L.second.high L.first.high (root_about p H P).1.high S.about.low in
      let g : grid binary64 A S.D < t = fewer A B S.D t c (without B S.x S.D S.within.low) S.some (lt_of_lt_of_le {m = 2 ^ 874} (lit< tt) U.tol_low) in
      ap (λ (z : Float). lt z tol) (quotient_is p H P)
      ∙ lt_units (round binary64 false A S.D) tol (grid binary64 A S.D) t (round_val binary64 A S.D (lt_trans g (lt_of_lt_of_le U.tol_high (lit≤ tt)))) tolerance
      ∙ lt-ltb (grid binary64 A S.D) t g
    where
      without : (B x D : ℕ) → 64 * (B + x) ≤ 65 * D → 64 * B ≤ 65 * D
      without B x D h = omega arith

  pub told_below : (p : Float) → Double p → Plain p → lt (mul binary64 p k) (limit_of tol q) ≡ true → lt (quotient p q) tol ≡ true
  told_below nan H P h = absurd (false≢true (sym (nothing (limit_of tol q)) ∙ h))
    where
      nothing : (y : Float) → lt (mul binary64 nan k) y ≡ false
      nothing y = unfold mul lt in refl
  told_below (inf true) H P h = absurd P
  told_below (inf false) H P h = absurd (false≢true (sym (never k N (limit_of tol q) L.L L.are) ∙ h))
    where
      infinite : (b : Bool) (y : Float) (n : ℕ) → Units y n → lt (cond b nan (inf false)) y ≡ false
      infinite false nan n Y = elim Y [ ]
      infinite false (inf _) n Y = elim Y [ ]
      infinite true y n Y = unfold lt in refl
      infinite false (fin s m e) n Y = unfold lt in refl

      never : (k : Float) → NotNegative k → (y : Float) (n : ℕ) → Units y n → lt (mul binary64 (inf false) k) y ≡ false
      never nan N y n Y = elim N [ ]
      never (inf _) N y n Y = elim N [ ]
      never (fin true m e) N y n Y = elim N [ ]
      never (fin false m e) N y n Y = unfold mul in infinite (eqb m 0) y n Y
  told_below (fin true m e) H P h = absurd P
  told_below (fin false m e) H P h = number_below (fin false m e) H tt h

  -- ---- not below
  number_above : (p : Float) → Double p → NotNegative p → lt (mul binary64 (limit_of tol q) k) p ≡ true → lt (quotient p q) tol ≡ false
  number_above p H P h =
      let A = units_in (root_of p) in
      let B = units_in (root_of q) in
      let t = units_in tol in
      let a = twice_at_most (limit_of tol q) k p L.L (units_in p) L.are K N two H (own_units p H P) h in
      let c = many (units_in p) (units_in q) t L.W L.L A B (2 ^ 1074) a L.second.low L.first.low (root_about p H P).1.low S.about.high in
      ap (λ (z : Float). lt z tol) (quotient_is p H P)
      ∙ not_below_rounded A S.D tol t S.some F tolerance (not_below A B S.D S.x t (2 ^ 1074) c S.within.high S.little)

  pub told_above : (p : Float) → Double p → Plain p → lt (mul binary64 (limit_of tol q) k) p ≡ true → lt (quotient p q) tol ≡ false
  told_above nan H P h = absurd (false≢true (sym (none_below (mul binary64 (limit_of tol q) k)) ∙ h))
  told_above (inf true) H P h = absurd P
  told_above (inf false) H P h = endless (add binary64 (root_of q) tiny) S.D S.are
    where
      over : (y : Float) (n : ℕ) → Units y n → lt (div binary64 (inf false) y) tol ≡ false
      over nan n Y = elim Y [ ]
      over (inf _) n Y = elim Y [ ]
      over (fin true m e) n Y = absurd (true≢false Y.0)
      over (fin false m e) n Y = unfold div in top tol
        where
          top : (x : Float) → lt (inf false) x ≡ false
          top nan = unfold lt in refl
          top (inf t) = unfold lt in refl
          top (fin t m e) = unfold lt in refl

      endless : (y : Float) (n : ℕ) → Units y n → lt (div binary64 (root_of (inf false)) y) tol ≡ false
      endless y n Y = unfold root_of in over y n Y
  told_above (fin true m e) H P h = absurd P
  told_above (fin false m e) H P h = number_above (fin false m e) H tt h
