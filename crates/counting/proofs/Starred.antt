-- With both tolerances zero or less what comes out is foretold by the clock, and a curve is read by its definition; the table is one computed test
-- of both.
use Rattle.std.proofs.Common.{Ok, Err}
use mathlib.Core.Path.{◌≡◌, refl, sym, ap, ◌∙◌, subst}
use Prim.Native.Nat.{ℕ, zero, suc, ◌+◌, ◌-◌, ◌≤◌, ◌<◌}
use native.Mathlib.Omega.{arith}
use mathlib.Core.Bool.{Bool, true, false, ◌&&◌, cond}
use mathlib.Core.List.{List, [], ◌∷◌}
use lib.ListN.{length}
use lib.Ieee.{Float, binary64, of_int, round, neg, add, sub, mul, div, lt, le, eq}
use Rattle.triple.specs.declared.Triple.{Triple}
use Rattle.triple.specs.Arithmetic.{nought, plus, minus, times, over}
use Rattle.triple.specs.Size.{absolute}
use Rattle.triple.specs.Finite.{is_finite}
use Rattle.refusals.specs.Numbers.{number_of}
use Rattle.quintic.specs.Quintic.{delta1, delta2, delta3, curve_of, position_on, velocity_on, acceleration_on, quintic_hermite}
use Rattle.startup.specs.Points.{offset, time_at}
use Rattle.plan.specs.declared.Settings.{Settings}
use Rattle.plan.specs.declared.Plan.{Plan}
use Rattle.plan.specs.Limits.{are_within_limits, wants_samples}
use Rattle.plan.specs.Plan.{direction_of, plan_of, is_too_near}
use Rattle.plan.specs.Lawful.{is_dated, is_lawful}
use Rattle.plan.specs.Verdict.{Verdict, fault_of, verdict_on}
use Rattle.conditions.specs.Conditions.{left_at, is_due, is_tail}
use Rattle.run.proofs.Counts.{both}
use Rattle.rules.specs.Rules.{integrate}
use Rattle.rules.specs.Walk.{Stop, begin_by}
use Rattle.rules.specs.Asked.{clock}
use Rattle.counting.specs.Paths.{Always}
use Rattle.counting.specs.Clockwork.{Fate, arrives, tails, runs_out, fate_from, fate_of, steps_of, plain_steps, tail_answers, most, NeverStops, Counted, grid_time, sample_time, clockwork}
use Rattle.counting.proofs.Starts.{begin_by_lem}
use Rattle.counting.proofs.Claims.{always_follows}
use Rattle.counting.proofs.Marching.{by_the_clock}
use Rattle.counting.specs.Starred.{Expected, no_run, finishes, exceeds_at, reads, At, expecting, Accepted, Example, run, curve, Meets, Row, starred_rows, AllMeet, Starred}

-- the times of the first n samples
unfoldable times_up_to : Plan → Fate → ℕ → (n : ℕ) → List Float
times_up_to p f i zero = []
times_up_to p f i (suc n) = sample_time p f i ∷ times_up_to p f (i + 1) n

unfoldable all_times : Plan → Fate → List Float
all_times p f = cond (wants_samples p.settings) (times_up_to p f 0 (steps_of f + 1)) []

unfoldable of_fate : Plan → Fate → Expected
of_fate p (arrives t n) = finishes t n (most p (arrives t n) p.settings.max_startup_iters) (all_times p (arrives t n))
of_fate p (tails n) = finishes p.tf (n + 1) (most p (tails n) p.settings.max_startup_iters) (all_times p (tails n))
of_fate p (runs_out n) = exceeds_at (most p (runs_out n) p.settings.max_startup_iters)

-- ---- the fate, worked out no further than it must be: only the arm that is taken is run
unfoldable pick : Bool → (Unit {0} → Fate) → (Unit {0} → Fate) → Fate
pick true f g = f tt
pick false f g = g tt

pick_is : (b : Bool) (f g : Unit {0} → Fate) → pick b f g ≡ cond b (f tt) (g tt)
unfolding pick
pick_is true f g = refl
pick_is false f g = refl

unfoldable fate_run : (left : ℕ) → Plan → Float → ℕ → Fate
fate_run zero p t n = pick (is_due p t) (λ (u : Unit {0}). runs_out n) (λ (u : Unit {0}). arrives t n)
fate_run (suc left) p t n =
    pick (is_due p t) (λ (u : Unit {0}). pick (is_tail p t) (λ (v : Unit {0}). tails n) (λ (v : Unit {0}). fate_run left p (add binary64 t p.h) (n + 1)))
    (λ (u : Unit {0}). arrives t n)

fate_run_lem : (left : ℕ) (p : Plan) (t : Float) (n : ℕ) → fate_run left p t n ≡ fate_from left p t n
unfolding fate_run fate_from
fate_run_lem zero p t n = pick_is (is_due p t) _ _
fate_run_lem (suc left) p t n =
    pick_is (is_due p t) _ _
    ∙ ap (λ (f : Fate). cond (is_due p t) f (arrives t n)) (pick_is (is_tail p t) _ _ ∙ ap (λ (f : Fate). cond (is_tail p t) (tails n) f) (fate_run_lem left p (add binary64 t p.h) (n + 1)))

unfoldable run_fate : Plan → Fate
run_fate p = fate_run (p.settings.max_steps - 4) p (time_at p.t0 p.h 8) 4

unfoldable foretold_by : Verdict → Plan → Expected
foretold_by (Ok u) p = of_fate p (run_fate p)
foretold_by (Err e) p = no_run (number_of e)

unfoldable foretold : Example → Expected
foretold (run s t0 tf) = foretold_by (verdict_on (plan_of s t0 tf)) (plan_of s t0 tf)
foretold (curve before after t) = reads (quintic_hermite before after t)

-- ---- the computed test
unfoldable foretold_rows : List Row → List Expected
foretold_rows [] = []
foretold_rows (r ∷ rs) = foretold r.example ∷ foretold_rows rs

unfoldable expected_rows : List Row → List Expected
expected_rows [] = []
expected_rows (r ∷ rs) = r.expected ∷ expected_rows rs

rows_agree : foretold_rows starred_rows ≡ expected_rows starred_rows
unfolding foretold_rows expected_rows foretold foretold_by verdict_on fault_of is_lawful is_dated is_finite of_fate are_within_limits wants_samples is_too_near plan_of direction_of run_fate fate_run pick is_due is_tail left_at time_at offset all_times times_up_to sample_time grid_time clock most plain_steps tail_answers steps_of absolute quintic_hermite position_on velocity_on acceleration_on curve_of delta1 delta2 delta3 plus minus times over of_int round add sub mul div neg lt le eq
rows_agree = refl

-- ---- the law: what is foretold comes out
times_at : (p : Plan) (f : Fate) (i n j : ℕ) (x : Float) → j < n → x ≡ sample_time p f (i + j) → At (times_up_to p f i n) j x
unfolding times_up_to At
times_at p f i zero j x l e = absurd (omega arith)
times_at p f i (suc n) zero x l e = let z : i + 0 ≡ i = omega arith in e ∙ ap (sample_time p f) z
times_at p f i (suc n) (suc j) x l e = let z : i + suc j ≡ i + 1 + j = omega arith in times_at p f (i + 1) n j x (omega arith) (e ∙ ap (sample_time p f) z)

times_count : (p : Plan) (f : Fate) (i n : ℕ) → length (times_up_to p f i n) ≡ n
unfolding times_up_to
times_count p f i zero = refl
times_count p f i (suc n) = ap suc (times_count p f (i + 1) n)

all_at : (p : Plan) (f : Fate) (n : ℕ) (x : Float) → (wants_samples p.settings ≡ true) × (n ≤ steps_of f) × (x ≡ sample_time p f n) → At (all_times p f) n x
unfolding all_times
all_at p f n x h =
    let l = h.1 in
    let z : 0 + n ≡ n = omega arith in
    subst (λ (b : Bool). At (cond b (times_up_to p f 0 (steps_of f + 1)) []) n x) (sym h.0) (times_at p f 0 (steps_of f + 1) n x (omega arith) (h.2 ∙ sym (ap (sample_time p f) z)))

all_count : (p : Plan) (f : Fate) → cond (wants_samples p.settings) (steps_of f + 1) 0 ≡ length (all_times p f)
unfolding all_times
all_count p f = go (wants_samples p.settings)
  where
    go : (b : Bool) → cond b (steps_of f + 1) 0 ≡ length (cond b (times_up_to p f 0 (steps_of f + 1)) [])
    go true = sym (times_count p f 0 (steps_of f + 1))
    go false = refl

-- the counts at an end, with tolerances that stop nothing
module _ (p : Plan) (never : NeverStops p) where
  met : (f : Fate) (e n startups : ℕ) → Counted p f e n startups → e ≡ most p f p.settings.max_startup_iters
  met f e n startups c = let y = c.exactly never in y.1 ∙ ap (most p f) y.0

  fate_meets : (f : Fate) (r0 v0 : Triple) → Always (clockwork p f) 0 0 (integrate p r0 v0) → Always (expecting (of_fate p f)) 0 0 (integrate p r0 v0)
  unfolding of_fate expecting clockwork
  fate_meets (arrives u m) r0 v0 h =
      always_follows (clockwork p (arrives u m)) (expecting (of_fate p (arrives u m))) (all_at p (arrives u m))
      (λ (e n : ℕ) (t : Float) (steps startups : ℕ) (c : ((t ≡ u) × (steps ≡ m)) × Counted p (arrives u m) e n startups).
      (c.0.0, c.0.1, met (arrives u m) e n startups c.1, c.1.samples ∙ all_count p (arrives u m)))
      (λ (e n : ℕ) (c : ⊥ × ((s : ℕ) × Counted p (arrives u m) e n s)). c.0) 0 0 (integrate p r0 v0) h
  fate_meets (tails m) r0 v0 h =
      always_follows (clockwork p (tails m)) (expecting (of_fate p (tails m))) (all_at p (tails m))
      (λ (e n : ℕ) (t : Float) (steps startups : ℕ) (c : ((t ≡ p.tf) × (steps ≡ m + 1)) × Counted p (tails m) e n startups).
      (c.0.0, c.0.1, met (tails m) e n startups c.1, c.1.samples ∙ all_count p (tails m)))
      (λ (e n : ℕ) (c : ⊥ × ((s : ℕ) × Counted p (tails m) e n s)). c.0) 0 0 (integrate p r0 v0) h
  fate_meets (runs_out m) r0 v0 h =
      always_follows (clockwork p (runs_out m)) (expecting (of_fate p (runs_out m)))
      (λ (n : ℕ) (t : Float) (c : (wants_samples p.settings ≡ true) × (n ≤ steps_of (runs_out m)) × (t ≡ sample_time p (runs_out m) n)). tt)
      (λ (e n : ℕ) (t : Float) (steps startups : ℕ) (c : ⊥ × Counted p (runs_out m) e n startups). c.0)
      (λ (e n : ℕ) (c : Unit {0} × ((s : ℕ) × Counted p (runs_out m) e n s)). met (runs_out m) e n c.1.0 c.1.1) 0 0 (integrate p r0 v0) h

module _ (s : Settings) (t0 tf : Float) (r0 v0 : Triple) (never : NeverStops (plan_of s t0 tf)) where
  abbrev p : Plan
  p = plan_of s t0 tf

  meets_fate : (f : Fate) → Accepted s t0 tf r0 v0 → Always (clockwork p f) 0 0 (integrate p r0 v0) → Meets r0 v0 (run s t0 tf) (of_fate p f)
  unfolding of_fate
  meets_fate (arrives u m) g h = (g, fate_meets p never (arrives u m) r0 v0 h)
  meets_fate (tails m) g h = (g, fate_meets p never (tails m) r0 v0 h)
  meets_fate (runs_out m) g h = (g, fate_meets p never (runs_out m) r0 v0 h)

  run_is : fate_of p ≡ run_fate p
  unfolding run_fate fate_of
  run_is = sym (fate_run_lem _ _ _ _)

  by_verdict : (v : Verdict) → verdict_on p ≡ v → Meets r0 v0 (run s t0 tf) (foretold_by v p)
  unfolding foretold_by begin_by
  by_verdict (Ok u) e =
      meets_fate (run_fate p) (begin_by_lem s t0 tf r0 v0 (Ok tt) e) (subst (λ (f : Fate). Always (clockwork p f) 0 0 (integrate p r0 v0)) run_is (by_the_clock p r0 v0))
  by_verdict (Err r) e = ap (λ (x : Stop). x.said) (begin_by_lem s t0 tf r0 v0 (Err r) e)

-- ---- all rows
unfoldable never_stops : Example → Bool
never_stops (run s t0 tf) = le s.startup_tol nought && le s.corrector_tol nought
never_stops (curve before after t) = true

unfoldable never_all : List Row → Bool
never_all [] = true
never_all (r ∷ rs) = never_stops r.example && never_all rs

foretells : (r0 v0 : Triple) (x : Example) → never_stops x ≡ true → Meets r0 v0 x (foretold x)
unfolding foretold never_stops plan_of
foretells r0 v0 (run s t0 tf) n =
    let b = both _ _ n in by_verdict s t0 tf r0 v0 (record { startup = b.0; corrector = b.1 }) (verdict_on (plan_of s t0 tf)) refl
foretells r0 v0 (curve before after t) n = refl

first : List Expected → Expected
first [] = no_run 0
first (x ∷ xs) = x

later : List Expected → List Expected
later [] = []
later (x ∷ xs) = xs

all_meet : (r0 v0 : Triple) (rs : List Row) → never_all rs ≡ true → foretold_rows rs ≡ expected_rows rs → AllMeet r0 v0 rs
unfolding AllMeet never_all foretold_rows expected_rows first later
all_meet r0 v0 [] n h = tt
all_meet r0 v0 (r ∷ rs) n h =
    let b = both _ _ n in
    (subst (Meets r0 v0 r.example) (ap first h) (foretells r0 v0 r.example b.0), all_meet r0 v0 rs b.1 (ap later h))

never_all_lem : never_all starred_rows ≡ true
unfolding never_all never_stops le lt eq
never_all_lem = refl

-- the examples marked * in 01, whatever the accelerations are
pub starred : Starred
starred r0 v0 = all_meet r0 v0 starred_rows never_all_lem rows_agree
