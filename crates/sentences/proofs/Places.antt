-- Which places of the output are written: none past the times' own, and for every time of a call that writes.
use Rattle.std.specs.Prelude.{⊤, Result, Ok, Err}
use Prim.Native.Nat.{ℕ, ◌+◌, ◌*◌, ◌/◌, ◌%◌, ◌<◌, ◌≤◌}
use mathlib.Core.Path.{◌≡◌, refl, ◌∙◌}
use mathlib.Core.Bool.{Bool, true, false, cond, ◌||◌, not}
use mathlib.Core.List.{List, [], ◌∷◌}
use native.Mathlib.Omega.{arith}
use lib.Dec.{ltb, eqb}
use lib.ListN.{length, get_or, set}
use lib.Seq.{get_or-set_other}
use lib.Ieee.{Float, nan}
use borrow.Author.Tests.{ltb-false}
use Rattle.triple.specs.declared.Triple.{Triple}
use Rattle.quintic.specs.declared.Between.{Between}
use Rattle.refusals.specs.declared.Refusal.{Refusal}
use Rattle.refusals.specs.declared.Refusal.TheVariants.{NoDenseOutput, InterpOutOfBounds, Shape}
use Rattle.intervals.specs.Table.{count_of}
use Rattle.intervals.specs.Intervals.{ends_of, interval_of, walked_to}
use Rattle.dense.specs.Interpolation.{between_numbers, put_from, is_misshapen, any_outside, judged, value_at, written, written_all, unless, interpolated, batched}
use Rattle.sentences.specs.Sentences.{PastUntouched, PastUntouchedOne, PlaceForAll}

other : (l : List Float) (i : ℕ) (x : Float) (p : ℕ) → i < p → get_or (set l i x) p nan ≡ get_or l p nan
other l i x p h = get_or-set_other l i p x nan (λ e. omega arith)

-- three numbers
three : (l : List Float) (i j k p : ℕ) (t : Triple) → i < p → j < p → k < p → get_or (set (set (set l i t.x) j t.y) k t.z) p nan ≡ get_or l p nan
three l i j k p t hi hj hk = rw (other, other, other)

-- position, velocity and acceleration from place q on
others : (l : List Float) (q p : ℕ) (b : Between) → q + between_numbers ≤ p → get_or (put_from q b l) p nan ≡ get_or l p nan
others l q p b h =
    let at_r = three l q (q + 1) (q + 2) p b.r (omega arith) (omega arith) (omega arith) in
    let put_r = set (set (set l q b.r.x) (q + 1) b.r.y) (q + 2) b.r.z in
    let at_v = three put_r (q + 3) (q + 4) (q + 5) p b.v (omega arith) (omega arith) (omega arith) in
    let put_v = set (set (set put_r (q + 3) b.v.x) (q + 4) b.v.y) (q + 5) b.v.z in
    three put_v (q + 6) (q + 7) (q + 8) p b.a (omega arith) (omega arith) (omega arith) ∙ at_v ∙ at_r

put_past : (j : ℕ) (b : Between) (out : List Float) (p : ℕ) → between_numbers * j + between_numbers ≤ p → get_or (written j b out) p nan ≡ get_or out p nan
unfolding written
put_past j b out p h = by (ltb j (length out / between_numbers)) _ (others out (between_numbers * j) p b h)
  where
    by : (t : Bool) (new : List Float) → get_or new p nan ≡ get_or out p nan → get_or (cond t new out) p nan ≡ get_or out p nan
    by true new e = e
    by false new e = refl

each_past : (l : List Float) (j k : ℕ) (ts out : List Float) (p : ℕ) → between_numbers * (j + length ts) ≤ p → get_or (written_all l j k ts out) p nan ≡ get_or out p nan
unfolding written_all
each_past l j k [] out p h = refl
each_past l j k (t ∷ ts) out p h =
    each_past l (j + 1) (walked_to l t k) ts (written j (value_at l (walked_to l t k) t) out) p (omega arith)
    ∙ put_past j (value_at l (walked_to l t k) t) out p (omega arith)

unless_past : (told : Result ⊤ Refusal) (new old : List Float) (p : ℕ) → get_or new p nan ≡ get_or old p nan → get_or (unless told new old) p nan ≡ get_or old p nan
unfolding unless
unless_past (Ok u) new old p e = e
unless_past (Err r) new old p e = refl

pub past_untouched : PastUntouched
unfolding batched
past_untouched times samples out p h = unless_past (judged times samples out) _ out p (each_past samples 0 0 times out p (omega arith))

pub past_untouched_one : PastUntouchedOne
unfolding interpolated
past_untouched_one t samples out p h =
    unless_past (judged (t ∷ []) samples out) _ out p (put_past 0 (value_at samples (interval_of samples t) t) out p (omega arith))

-- a call that writes is not misshapen
well_shaped : (m few any : Bool) → ◌≡◌ {A = Result ⊤ Refusal} (cond m (Err Shape) (cond few (Err NoDenseOutput) (cond any (Err InterpOutOfBounds) (Ok tt)))) (Ok tt) → m ≡ false
well_shaped false few any e = refl
well_shaped true few any e = let z : ◌≡◌ {A = ℕ} 0 1 = cc in absurd (omega arith)

second : (a b : Bool) → (a || b) ≡ false → b ≡ false
second false b e = e
second true b e = let z : ◌≡◌ {A = ℕ} 0 1 = cc in absurd (omega arith)

pub place_for_all : PlaceForAll
unfolding judged is_misshapen
place_for_all times samples out e j h =
    let shaped = well_shaped (is_misshapen times samples out) (ltb (count_of samples) 2) (any_outside (ends_of samples) times) e in
    let fits : between_numbers * length times ≤ length out = ltb-false (length out) (between_numbers * length times) (second (not (eqb (length samples % 10) 0)) _ shaped) in
    omega arith
