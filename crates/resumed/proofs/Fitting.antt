-- Every run of a line is as the machine has it, where the numbers that come from outside are: each float that is worked out is rounded to
-- binary64, and every row keeps its nine.
use mathlib.Core.Path.{◌≡◌, refl, ◌∙◌}
use Prim.Native.Nat.{ℕ, zero, suc}
use mathlib.Core.Bool.{Bool, true, false}
use mathlib.Core.List.{List, [], ◌∷◌}
use lib.Dec.{eqb, ltb}
use lib.ListN.{length, set, length-set}
use lib.Seq.{get_or-set_same, get_or-set_other, set_out}
use lib.Ieee.{Float, nan, binary64, fits, lt}
use lib.Ieee.Fits.{add-fits, mul-fits, round-fits, cond-fits, nan-fits}
use borrow.Author.Tests.{eqb-true, eqb-false, ltb-true, ltb-false}
use Rattle.triple.specs.declared.Triple.{Triple}
use Rattle.triple.specs.declared.State.{State}
use Rattle.triple.specs.declared.Point.{Point}
use Rattle.triple.specs.Arithmetic.{nought, zeros, plus, minus, times}
use Rattle.triple.specs.Size.{larger_of, size_of, tiny}
use Rattle.triple.specs.Nine.{at, nine_zeros, slid}
use Rattle.triple.specs.Doubles.{Double, Doubles}
use Rattle.triple.proofs.Signs.{double_size}
use Rattle.rk4.specs.Rk4.{end_of_step}
use Rattle.sums.specs.declared.Sums.{Sums}
use Rattle.sums.specs.declared.Fixed.{Fixed}
use Rattle.sums.specs.Weighted.{weighted, weighted_next, fixed_sum}
use Rattle.sums.specs.Sums.{on_sums, point_of, predicted_state, fixed_of, corrected_state}
use Rattle.startup.specs.declared.Places.{Places}
use Rattle.startup.specs.declared.Widest.{Widest}
use Rattle.startup.specs.Points.{time_at, placed}
use Rattle.startup.specs.Passes.{sums_on, last_sums, widened, calm_at, point_on, point_back, points_on, points_back, pass_places}

abbrev pub F : Float → Type 0
F x = Double x

abbrev pub Fit : Triple → Type 0
Fit t = Doubles t

pub record FitState (s : State) : Type 0 where
  pub r : Fit s.r
  pub v : Fit s.v

pub record FitSums (u : Sums) : Type 0 where
  pub s : Fit u.s
  pub S : Fit u.big_s

-- ---- the operations round
pub nought_fits : F nought
nought_fits = unfold fits in tt

pub zeros_fit : Fit zeros
unfolding zeros
zeros_fit = record { x = nought_fits; y = nought_fits; z = nought_fits }

pub plus_fit : (a b : Triple) → Fit (plus a b)
unfolding plus
plus_fit a b = record { x = add-fits binary64 a.x b.x; y = add-fits binary64 a.y b.y; z = add-fits binary64 a.z b.z }

times_fit : (a : Triple) (k : Float) → Fit (times a k)
unfolding times
times_fit a k = record { x = mul-fits binary64 a.x k; y = mul-fits binary64 a.y k; z = mul-fits binary64 a.z k }

pub end_fit : (p : Point) (h : Float) (a b c d : Triple) → FitState (end_of_step p h a b c d)
unfolding end_of_step
end_fit p h a b c d = record { r = plus_fit _ _; v = plus_fit _ _ }

pub point_fit : (i : ℕ) (h : Float) (u : Sums) (a : List Triple) → FitState (point_of i h u a)
unfolding point_of
point_fit i h u a = record { r = times_fit _ _; v = times_fit _ _ }

pub predicted_fit : (h : Float) (u : Sums) (a : List Triple) → FitState (predicted_state h u a)
unfolding predicted_state
predicted_fit h u a = record { r = times_fit _ _; v = times_fit _ _ }

pub corrected_fit : (h : Float) (u : Sums) (f : Fixed) (b : Triple) → FitState (corrected_state h u f b)
unfolding corrected_state
corrected_fit h u f b = record { r = times_fit _ _; v = times_fit _ _ }

pub fixed_fit : (a : List Triple) → Fit (fixed_of a).fa × Fit (fixed_of a).fb
unfolding fixed_of fixed_sum weighted_next weighted
fixed_fit a = (plus_fit _ _, plus_fit _ _)

pub on_fit : (u : Sums) (b : Triple) → FitSums (on_sums u b)
unfolding on_sums
on_fit u b = record { s = plus_fit _ _; S = plus_fit _ _ }

pub last_fit : (h : Float) (p : Places) (a : List Triple) → FitSums (last_sums h p a)
unfolding last_sums sums_on
last_fit h p a = on_fit _ _

pub time_fit : (t h : Float) (i : ℕ) → F (time_at t h i)
unfolding time_at
time_fit t h i = add-fits binary64 t _

-- ---- the size, and the largest
larger_fit : (x y : Float) → F x → F y → F (larger_of x y)
unfolding larger_of
larger_fit x y h k = cond-fits binary64 (lt x y) y x k h

pub record FitWidest (w : Widest) : Type 0 where
  pub delta : F w.delta
  pub mag : F w.mag

pub widened_fit : (w : Widest) (a b : Triple) → FitWidest w → FitWidest (widened w a b)
unfolding widened
widened_fit w a b h =
    record { delta = larger_fit w.delta (size_of (minus b a)) h.delta (double_size (minus b a)); mag = larger_fit w.mag (size_of b) h.mag (double_size b) }

-- ---- rows of nine
pub record Row (l : List Triple) : Type 0 where
  pub nine : length l ≡ 9
  pub fit : (i : ℕ) → Fit (at l i)

none_fit : Fit (record { x = nan; y = nan; z = nan })
none_fit = record { x = nan-fits binary64; y = nan-fits binary64; z = nan-fits binary64 }

abbrev pub All : List Triple → Type 0
All [] = Unit {0}
All (t ∷ ts) = Fit t × All ts

pub all_at : (l : List Triple) → All l → (i : ℕ) → Fit (at l i)
all_at [] m i = none_fit
all_at (t ∷ ts) m zero = m.0
all_at (t ∷ ts) m (suc i) = all_at ts m.1 i

pub row_set : (l : List Triple) (i : ℕ) (t : Triple) → Row l → Fit t → Row (set l i t)
row_set l i t h k = record { nine = length-set l i t ∙ h.nine; fit = λ (j : ℕ). go j (eqb j i) (ltb i (length l)) refl refl }
  where
    go : (j : ℕ) (d e : Bool) → eqb j i ≡ d → ltb i (length l) ≡ e → Fit (at (set l i t) j)
    go j true true p q = let z : j ≡ i = eqb-true _ _ p in rw (z, get_or-set_same l i t (record { x = nan; y = nan; z = nan }) (ltb-true _ _ q)) k
    go j true false p q = rw (set_out l i t (ltb-false _ _ q)) (h.fit j)
    go j false e p q = rw (get_or-set_other l i j t (record { x = nan; y = nan; z = nan }) (eqb-false _ _ p)) (h.fit j)

pub nine_row : {a b c d e f g h i : Triple} → Fit a → Fit b → Fit c → Fit d → Fit e → Fit f → Fit g → Fit h → Fit i → Row (a ∷ b ∷ c ∷ d ∷ e ∷ f ∷ g ∷ h ∷ i ∷ [])
nine_row {a} {b} {c} {d} {e} {f} {g} {h} {i} fa fb fc fd fe ff fg fh fi =
    record { nine = refl; fit = all_at (a ∷ b ∷ c ∷ d ∷ e ∷ f ∷ g ∷ h ∷ i ∷ []) (fa, (fb, (fc, (fd, (fe, (ff, (fg, (fh, (fi, tt))))))))) }

pub zeros_row : Row nine_zeros
unfolding nine_zeros
zeros_row = nine_row zeros_fit zeros_fit zeros_fit zeros_fit zeros_fit zeros_fit zeros_fit zeros_fit zeros_fit

pub slide_row : (a : List Triple) (t : Triple) → Row a → Fit t → Row (slid a t)
unfolding slid
slide_row a t h k = nine_row (h.fit 1) (h.fit 2) (h.fit 3) (h.fit 4) (h.fit 5) (h.fit 6) (h.fit 7) (h.fit 8) k

pub record FitPlaces (p : Places) : Type 0 where
  pub r : Row p.r
  pub v : Row p.v

pub placed_fit : (i : ℕ) (x : State) (p : Places) → FitState x → FitPlaces p → FitPlaces (placed i x p)
unfolding placed
placed_fit i x p h k = record { r = row_set _ i _ k.r h.r; v = row_set _ i _ k.v h.v }

pub pass_fit : (h : Float) (p : Places) (a : List Triple) → FitPlaces p → FitPlaces (pass_places h p a)
unfolding pass_places points_on points_back point_on point_back
pass_fit h p a k =
    record {
      r = nine_row (point_fit _ _ _ _).r (point_fit _ _ _ _).r (point_fit _ _ _ _).r (point_fit _ _ _ _).r (k.r.fit 4) (point_fit _ _ _ _).r (point_fit _ _ _ _).r (point_fit _ _ _ _).r (point_fit _ _ _ _).r;
      v = nine_row (point_fit _ _ _ _).v (point_fit _ _ _ _).v (point_fit _ _ _ _).v (point_fit _ _ _ _).v (k.v.fit 4) (point_fit _ _ _ _).v (point_fit _ _ _ _).v (point_fit _ _ _ _).v (point_fit _ _ _ _).v;
    }

pub calm_fit : (a : List Triple) → FitWidest (calm_at a)
unfolding calm_at tiny
calm_fit a = widened_fit (record { delta = nought; mag = tiny }) (at a 4) (at a 4) (record { delta = nought_fits; mag = round-fits binary64 false 1 _ })
