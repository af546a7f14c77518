-- What `is_usual` says of a tolerance and a mean square, in units of 2 ^ -1074; and what the mean square times the tolerance, twice, and its root with 1e-30
-- come to.
use mathlib.Core.Path.{◌≡◌, refl, sym, ◌∙◌, subst}
use Prim.Native.Nat.{ℕ, ◌+◌, ◌*◌, ◌^◌, ◌≤◌, ◌<◌}
use native.Mathlib.Nat.{le_trans, le_of_eq, le_of_lt, lt_of_le_of_lt, lt_of_lt_of_le, mul-one, mul-le-mul, mul-le-mul_left, mul-le-mul_right, le_of_mul-le-mul_right, lt_of_mul-lt-mul_right, mul-pos, zero-lt-suc}
use native.Mathlib.Omega.{arith}
use mathlib.Core.Bool.{true}
use lib.Dec.{lit≤, lit<}
use lib.Pow.{pow_pos}
use lib.Ieee.{Float, binary64, round, fits, add, mul, lt}
use borrow.Author.Tests.{ltb-true}
use Rattle.double.specs.Doubles.{Double}
use Rattle.double.specs.Units.{in_units, units_in, NotNegative}
use Rattle.double.proofs.Booleans.{both}
use Rattle.double.proofs.Units.{Units, own_units, lt_units, between}
use Rattle.double.proofs.Off.{Roughly, product, total}
use Rattle.root.specs.Root.{root_of}
use Rattle.root.proofs.Nearest.{double_root}
use Rattle.root.proofs.Squares.{About, root_about}
use Rattle.triple.specs.Size.{tiny}
use Rattle.conditions.specs.Usual.{vast, is_usual}
use Rattle.conditions.proofs.Chains.{sq_le}

-- ---- the four tests
pub record Usual (tol q : Float) : Type 0 where
  pub tol_plus : NotNegative tol
  pub tol_low : 2 ^ 874 ≤ units_in tol
  pub tol_high : units_in tol < 2 ^ 1074
  pub q_plus : NotNegative q
  pub q_low : 2 ^ 924 ≤ units_in q
  pub q_high : units_in q < 2 ^ 1574

-- above a constant, and below one
over : (least : ℕ) (lo x : Float) → Double lo → NotNegative lo → least ≤ units_in lo → Double x → NotNegative x → lt lo x ≡ true → least ≤ units_in x
over least lo x G M l F N h =
    le_trans l (le_of_lt (ltb-true (units_in lo) (units_in x) (sym (lt_units lo x (units_in lo) (units_in x) (own_units lo G M) (own_units x F N)) ∙ h)))

under : (most : ℕ) (hi x : Float) → Double hi → NotNegative hi → units_in hi ≤ most → Double x → NotNegative x → lt x hi ≡ true → units_in x < most
under most hi x G M l F N h =
    lt_of_lt_of_le (ltb-true (units_in x) (units_in hi) (sym (lt_units x hi (units_in x) (units_in hi) (own_units x F N) (own_units hi G M)) ∙ h)) l

pub usual : (tol q : Float) → Double tol → Double q → is_usual tol q ≡ true → Usual tol q
unfolding is_usual vast round fits in_units
usual tol q F G h =
    let a = both _ _ h in
    let b = both _ _ a.1 in
    let c = both _ _ b.1 in
    let T = between _ tol _ tt a.0 b.0 in
    let Q = between _ q _ tt c.0 c.1 in
    record {
      tol_plus = T;
      tol_low = over (2 ^ 874) _ tol tt tt (lit≤ tt) F T a.0;
      tol_high = under (2 ^ 1074) _ tol tt tt (lit≤ tt) F T b.0;
      q_plus = Q;
      q_low = over (2 ^ 924) _ q tt tt (lit≤ tt) G Q c.0;
      q_high = under (2 ^ 1574) _ q tt tt (lit≤ tt) G Q c.1;
    }

-- ---- q times tol, and times tol again
pub record Limit (tol q : Float) : Type 0 where
  pub W : ℕ
  pub L : ℕ
  pub are : Units (mul binary64 (mul binary64 q tol) tol) L
  pub first : Roughly (W * 2 ^ 1074) (units_in q * units_in tol)
  pub second : Roughly (L * 2 ^ 1074) (W * units_in tol)

pub limit : (tol q : Float) → Double tol → Double q → Usual tol q → Limit tol q
limit tol q F G U =
    let t = units_in tol in
    let Q = units_in q in
    let T = own_units tol F U.tol_plus in
    let w = product q tol Q t (own_units q G U.q_plus) T
    (le_trans (lit≤ tt) (mul-le-mul U.q_low U.tol_low)) (lt_of_le_of_lt (mul-le-mul (le_of_lt U.q_high) (le_of_lt U.tol_high)) (lit< tt)) in
    let W = w.units in
    let low : 2 ^ 723 ≤ W = le_of_mul-le-mul_right (le_trans (lit≤ tt) (le_trans (mul-le-mul_left 64 (mul-le-mul U.q_low U.tol_low)) (le_trans w.within.low (le_of_eq (turn 65 W (2 ^ 1074)))))) (mul-pos (zero-lt-suc 64) (pow_pos 1074)) in
    let high : W < 2 ^ 1575 = lt_of_mul-lt-mul_right (63 * 2 ^ 1074) (lt_of_le_of_lt (le_trans (le_of_eq (sym (turn 63 W (2 ^ 1074)))) (le_trans w.within.high (mul-le-mul_left 64 (mul-le-mul (le_of_lt U.q_high) (le_of_lt U.tol_high))))) (lit< tt)) in
    let l = product (mul binary64 q tol) tol W t w.are T
    (le_trans (lit≤ tt) (mul-le-mul low U.tol_low)) (lt_of_le_of_lt (mul-le-mul (le_of_lt high) (le_of_lt U.tol_high)) (lit< tt)) in
    record { W = W; L = l.units; are = l.are; first = w.within; second = l.within }
  where
    turn : (c w u : ℕ) → c * (w * u) ≡ w * (c * u)
    turn c w u = omega arith

-- ---- the root of q, and 1e-30
abbrev thirtieth : ℕ
thirtieth = 178405961588245 * 2 ^ 927

tiny_units : Units tiny thirtieth
unfolding tiny round
tiny_units = (refl, refl)

pub record Sized (q : Float) : Type 0 where
  pub plus : NotNegative (root_of q)
  pub about : About (units_in (root_of q)) (units_in q * 2 ^ 1074)
  pub D : ℕ
  pub are : Units (add binary64 (root_of q) tiny) D
  pub some : 0 < D
  pub x : ℕ
  pub within : Roughly D (units_in (root_of q) + x)
  pub little : 1024 * x ≤ units_in (root_of q)

pub sized : (tol q : Float) → Double q → Usual tol q → Sized q
sized tol q G U =
    let r = root_about q G U.q_plus in
    let B = units_in (root_of q) in
    let low : 2 ^ 998 ≤ B = sq_le (2 ^ 998) B (by_17 (2 ^ 998 * 2 ^ 998) (B * B) (16 * (2 ^ 924 * 2 ^ 1074)) (lit≤ tt) (le_trans (mul-le-mul_left 16 (mul-le-mul_right (2 ^ 1074) U.q_low)) r.1.low)) in
    let high : B ≤ 2 ^ 1325 = sq_le B (2 ^ 1325) (by_16 (B * B) (units_in q * 2 ^ 1074) (2 ^ 1574 * 2 ^ 1074) (2 ^ 1325 * 2 ^ 1325) r.1.high (mul-le-mul_right (2 ^ 1074) (le_of_lt U.q_high)) (lit≤ tt)) in
    let d = total (root_of q) tiny B thirtieth (own_units (root_of q) (double_root q G) r.0) tiny_units (more B thirtieth (le_trans (lit≤ tt) low)) (lt_of_le_of_lt (add_right B (2 ^ 1325) thirtieth high) (lit< tt)) in
    let w : Roughly d.units (B + thirtieth) = subst (λ (z : ℕ). Roughly z (B + thirtieth)) (mul-one d.units) d.within in
    record {
      plus = r.0;
      about = r.1;
      D = d.units;
      are = d.are;
      some = positive d.units (B + thirtieth) (more B thirtieth (le_trans (lit≤ tt) low)) w.low;
      x = thirtieth;
      within = w;
      little = le_trans (lit≤ tt) low;
    }
  where
    by_17 : (X Y n : ℕ) → 17 * X ≤ n → n ≤ 17 * Y → X ≤ Y
    by_17 X Y n h k = omega arith

    by_16 : (X n m Y : ℕ) → 16 * X ≤ 17 * n → n ≤ m → 2 * m ≤ Y → X ≤ Y
    by_16 X n m Y h k l = omega arith

    more : (B x : ℕ) → 32 ≤ B → 32 ≤ B + x
    more B x h = omega arith

    add_right : (B C x : ℕ) → B ≤ C → B + x ≤ C + x
    add_right B C x h = omega arith

    positive : (D y : ℕ) → 32 ≤ y → 64 * y ≤ 65 * D → 0 < D
    positive D y h k = omega arith
