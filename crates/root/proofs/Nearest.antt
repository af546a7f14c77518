-- `root_of` is what specs/Nearest.antt says of it, and nothing else is.
use mathlib.Core.Path.{◌≡◌, refl, sym, subst}
use Prim.Native.Nat.{ℕ, zero, suc, ◌+◌, ◌-◌, ◌*◌, ◌/◌, ◌%◌, ◌^◌, ◌<◌, compare, Ordering}
use native.Mathlib.Omega.{arith}
use mathlib.Core.Bool.{true, false}
use lib.IntN.{ℤ}
use lib.Count.{count_leading_zeros}
use lib.Ieee.{Float, nan, inf, fin, binary64, fits, to_bits}
use Rattle.double.specs.Doubles.{Double}
use Rattle.double.specs.Units.{in_units, units_in, NotNegative}
use Rattle.double.proofs.Near.{Cmp, cmp}
use Rattle.double.proofs.Own.{counted}
use Rattle.double.proofs.Units.{Units, own_units, units_are, same_value}
use Rattle.root.specs.Nearest.{Nearer, NearerThan, IsNearest}
use Rattle.root.specs.Root.{isqrt, root_of, root_of_units, RootIs, RootOnly}
use Rattle.root.specs.Parts.{Between, Rounded, units_of}
use Rattle.root.proofs.Isqrt.{isqrt_floor}
use Rattle.root.proofs.Evening.{Scaled, scaled_low, scaled_high, evened}
use Rattle.root.proofs.Halves.{rounded}
use Rattle.root.proofs.Rounding.{root_units, root_double}
use Rattle.root.proofs.Read.{read}
use Rattle.root.proofs.Neighbours.{nearer, nearer_than_minus}

-- ---- the root of any number above zero lies between two half-way points
bracketed : (b : ℕ) → 0 < b → b < 0x7ff0_0000_0000_0000 → (r : ℕ) × Rounded (units_of b * 2 ^ 1074) r
bracketed b h l = go (b / 2 ^ 52) refl
  where
    with_scaled : (m e : ℕ) → Scaled (units_of b * 2 ^ 1074) m e → (r : ℕ) × Rounded (units_of b * 2 ^ 1074) r
    with_scaled m e s =
        let m' = m * (1 + e % 2) in
        let t = isqrt (m' * 2 ^ 54) in
        ((e / 2 - 26) * 2 ^ 52 + (t + 1) / 2, rounded b m' (e / 2) t (evened b m e s) (isqrt_floor (m' * 2 ^ 54)))

    go : (f : ℕ) → b / 2 ^ 52 ≡ f → (r : ℕ) × Rounded (units_of b * 2 ^ 1074) r
    go zero e =
        let t = b % 2 ^ 52 in
        with_scaled (t * 2 ^ (count_leading_zeros 64 t - 11) % 2 ^ 64) (1074 - (count_leading_zeros 64 t - 11)) (scaled_low (b / 2 ^ 52) t e (omega arith) (omega arith))
    go (suc f) e = with_scaled (b % 2 ^ 52 + 2 ^ 52) (b / 2 ^ 52 + 1073) (scaled_high (b / 2 ^ 52) (b % 2 ^ 52) (omega arith) (omega arith) (omega arith))

-- its root is q * 2 ^ k units
pub record Rooted (m : ℕ) (e : ℤ) : Type 0 where
  pub q : ℕ
  pub k : ℕ
  pub between : Between (in_units (suc m) e * 2 ^ 1074) q k
  pub plus : NotNegative (root_of (fin false (suc m) e))
  pub units : units_in (root_of (fin false (suc m) e)) ≡ q * 2 ^ k

pub rooted : (m : ℕ) (e : ℤ) → Double (fin false (suc m) e) → Rooted m e
unfolding root_of
rooted m e F =
    let n = in_units (suc m) e * 2 ^ 1074 in
    let r = read m e F in
    let c = bracketed (to_bits binary64 (fin false (suc m) e)) r.some r.few in
    let R : Rounded n c.0 = subst (λ (u : ℕ). Rounded (u * 2 ^ 1074) c.0) (sym r.units) c.1 in
    let v = units_are (root_of_units n) (R.q * 2 ^ R.k) (root_units n R.q R.k R.between) in
    record { q = R.q; k = R.k; between = R.between; plus = v.0; units = v.1 }

pub double_root : (x : Float) → Double x → Double (root_of x)
unfolding root_of fits
double_root nan F = tt
double_root (inf true) F = tt
double_root (inf false) F = tt
double_root (fin s zero e) F = F
double_root (fin true (suc m) e) F = tt
double_root (fin false (suc m) e) F = root_double (in_units (suc m) e * 2 ^ 1074)

-- ---- the statement
is_nearest : (m : ℕ) (e : ℤ) → Double (fin false (suc m) e) → IsNearest (fin false (suc m) e) (root_of (fin false (suc m) e))
is_nearest m e F =
    let x = fin false (suc m) e in
    let n = in_units (suc m) e * 2 ^ 1074 in
    let r = rooted m e F in
    record {
      double = double_root x F;
      plus = r.plus;
      nearest = λ y G. subst (λ (a : ℕ). NearerThan n a y) (sym r.units) (beside n r.q r.k r.between y G);
    }
  where
    beside : (n q k : ℕ) → Between n q k → (y : Float) → Double y → NearerThan n (q * 2 ^ k) y
    beside n q k B nan G = tt
    beside n q k B (inf s) G = tt
    beside n q k B (fin true p d) G = nearer_than_minus n q k B (in_units p d)
    beside n q k B (fin false p d) G =
        let c = counted false p d G in
        subst (λ (a : ℕ). Nearer n (q * 2 ^ k) a) (sym c.is) (nearer n q k B p c.k c.digits)

pub root_is : RootIs
unfolding root_of
root_is nan F = refl
root_is (inf true) F = refl
root_is (inf false) F = refl
root_is (fin s zero e) F = refl
root_is (fin true (suc m) e) F = refl
root_is (fin false (suc m) e) F = is_nearest m e F

-- ---- no other double has it
same_units : (a b : Float) → Double a → Double b → NotNegative a → NotNegative b → units_in a ≡ units_in b → a ≡ b
same_units a b F G A B p = same_value false a b (units_in b) F G (subst (Units a) p (own_units a F A)) (own_units b G B)

one_nearest : (n r y : ℕ) → Nearer n r y → Nearer n y r → r ≡ y
one_nearest n r y f g = go (compare r y) (cmp r y)
  where
    clash : (r y : ℕ) → 4 * n < (r + y) * (r + y) → (y + r) * (y + r) < 4 * n → ⊥
    clash r y a b = omega arith

    go : (o : Ordering) → Cmp o r y → r ≡ y
    go Ordering.lt l = absurd (clash r y (f.0 l) (g.1 l))
    go Ordering.eq e = e
    go Ordering.gt l = absurd (clash y r (g.0 l) (f.1 l))

pub root_only : RootOnly
unfolding root_of
root_only nan r F a = a
root_only (inf true) r F a = a
root_only (inf false) r F a = a
root_only (fin s zero e) r F a = a
root_only (fin true (suc m) e) r F a = a
root_only (fin false (suc m) e) r F a =
    let b = is_nearest m e F in
    let x = fin false (suc m) e in
    same_units r (root_of x) a.double b.double a.plus b.plus
    (one_nearest n (units_in r) (units_in (root_of x)) (in_units_lem (root_of x) b.plus (a.nearest (root_of x) b.double)) (in_units_lem r a.plus (b.nearest r a.double)))
  where
    n : ℕ
    n = in_units (suc m) e * 2 ^ 1074

    in_units_lem : {a : ℕ} (y : Float) → NotNegative y → NearerThan n a y → Nearer n a (units_in y)
    in_units_lem nan N h = elim N [ ]
    in_units_lem (inf _) N h = elim N [ ]
    in_units_lem (fin true p d) N h = elim N [ ]
    in_units_lem (fin false p d) N h = h
