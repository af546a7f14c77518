-- A run as the machine has it: every float is an f64, every row has nine.
use mathlib.Core.Path.{◌≡◌}
use Prim.Native.Nat.{ℕ, ◌*◌, ◌+◌, ◌/◌, ◌%◌, ◌<◌}
use mathlib.Core.List.{List}
use lib.Dec.{eqb}
use lib.ListN.{length}
use lib.Ieee.{binary64}
use lib.Ieee.Fits.{cond-fits}
use Rattle.triple.specs.declared.Triple.{Triple}
use Rattle.triple.specs.Arithmetic.{nought}
use Rattle.run.specs.declared.Body.{Body}
use Rattle.run.specs.declared.Run.{Run}
use Rattle.run.specs.Waiting.{waits_at}
use Rattle.blocks.specs.Rows.{row}
use Rattle.stored.specs.declared.layout.Uses.{Uses}
use Rattle.stored.specs.Layout.{uses_of, used, triples_of, component, float_no}
use Rattle.stored.specs.Taken.{body_from}
use Rattle.stored.specs.Trips.{Floats, kept_float, kept_triple, cleaned}
use Rattle.resumed.proofs.Fitting.{F, Fit, All, all_at, nine_row, nought_fits}
use Rattle.resumed.proofs.Good.{Good}
use Rattle.resumed.proofs.Going.{GoodRun}

all_fit : (b : Body) → Good b → All (triples_of b)
unfolding triples_of
all_fit b g =
    (g.places.r.fit 0, (g.places.r.fit 1, (g.places.r.fit 2, (g.places.r.fit 3, (g.places.r.fit 4, (g.places.r.fit 5, (g.places.r.fit 6, (g.places.r.fit 7, (g.places.r.fit 8, (g.places.v.fit 0, (g.places.v.fit 1, (g.places.v.fit 2, (g.places.v.fit 3, (g.places.v.fit 4, (g.places.v.fit 5, (g.places.v.fit 6, (g.places.v.fit 7, (g.places.v.fit 8, (g.a.fit 0, (g.a.fit 1, (g.a.fit 2, (g.a.fit 3, (g.a.fit 4, (g.a.fit 5, (g.a.fit 6, (g.a.fit 7, (g.a.fit 8, (g.slopes.l1, (g.slopes.l2, (g.slopes.l3, (g.track.state.r, (g.track.state.v, (g.track.sums.s, (g.track.sums.S, (g.trial.state.r, (g.trial.state.v, (g.trial.fa, (g.trial.fb, (record { x = g.widest.delta; y = g.widest.mag; z = g.track.t }, (record { x = g.plan.step; y = g.plan.corrector; z = g.plan.startup }, (record { x = g.plan.t0; y = g.plan.tf; z = g.plan.h }, tt)))))))))))))))))))))))))))))))))))))))))

component_fit : (t : Triple) (i : ℕ) → Fit t → F (component t i)
unfolding component
component_fit t i h = cond-fits binary64 (eqb i 0) _ _ h.x (cond-fits binary64 (eqb i 1) _ _ h.y h.z)

floats_fit : (b : Body) → Good b → (k : ℕ) → F (float_no (triples_of b) k)
unfolding float_no
floats_fit b g k = component_fit _ (k % 3) (all_at (triples_of b) (all_fit b g) (k / 3))

pub record Machine (run : Run) : Type 0 where
  pub floats : Floats run
  pub r : length run.body.places.r ≡ 9
  pub v : length run.body.places.v ≡ 9
  pub a : length run.body.a ≡ 9

pub machine : (run : Run) → GoodRun run → Machine run
machine run g = record { floats = λ (k : ℕ) (h : k < 123). floats_fit run.body g k; r = g.places.r.nine; v = g.places.v.nine; a = g.a.nine }

-- what is taken up again
kept_fit : (u : Uses) (ts : List Triple) → ((k : ℕ) → F (float_no ts k)) → (q : ℕ) → Fit (kept_triple u ts q)
unfolding kept_triple kept_float
kept_fit u ts h q =
    record {
      x = cond-fits binary64 (used u (3 * q)) _ nought (h (3 * q)) nought_fits;
      y = cond-fits binary64 (used u (3 * q + 1)) _ nought (h (3 * q + 1)) nought_fits;
      z = cond-fits binary64 (used u (3 * q + 2)) _ nought (h (3 * q + 2)) nought_fits;
    }

pub clean_good : (run : Run) → GoodRun run → GoodRun (cleaned run)
unfolding cleaned body_from row
clean_good run g =
    let k = kept_fit (uses_of (waits_at run.mark)) (triples_of run.body) (floats_fit run.body g) in
    record {
      plan = record { step = (k 39).x; corrector = (k 39).y; startup = (k 39).z; t0 = (k 40).x; tf = (k 40).y; h = (k 40).z };
      places =
          record {
            r = nine_row (k 0) (k 1) (k 2) (k 3) (k 4) (k 5) (k 6) (k 7) (k 8);
            v = nine_row (k 9) (k 10) (k 11) (k 12) (k 13) (k 14) (k 15) (k 16) (k 17);
          };
      a = nine_row (k 18) (k 19) (k 20) (k 21) (k 22) (k 23) (k 24) (k 25) (k 26);
      slopes = record { l1 = k 27; l2 = k 28; l3 = k 29 };
      widest = record { delta = (k 38).x; mag = (k 38).y };
      track = record { t = (k 38).z; state = record { r = k 30; v = k 31 }; sums = record { s = k 32; S = k 33 } };
      trial = record { state = record { r = k 34; v = k 35 }; fa = k 36; fb = k 37 };
    }
