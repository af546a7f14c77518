-- A body whose numbers are the machine's stays one.
use Prim.Native.Nat.{ℕ, ◌+◌, ◌-◌}
use lib.Ieee.{binary64}
use lib.Ieee.Fits.{add-fits}
use Rattle.triple.specs.declared.Triple.{Triple}
use Rattle.triple.specs.declared.State.{State}
use Rattle.startup.specs.Points.{state_at, first_places}
use Rattle.plan.specs.declared.Plan.{Plan}
use Rattle.run.specs.declared.Slopes.{Slopes}
use Rattle.run.specs.declared.Track.{Track}
use Rattle.run.specs.declared.Trial.{Trial}
use Rattle.run.specs.declared.Body.{Body}
use Rattle.run.specs.declared.waiting.Stage.{Stage}
use Rattle.run.specs.declared.waiting.Stage.TheVariants.{First, Second, Third, Fourth}
use Rattle.run.specs.Tracks.{start_track, track_on}
use Rattle.run.specs.Moves.{fresh_body, surveyed, with_slope, kept, end_of, moved_on, moved_back, pass_begun, renewed, pass_made, launched, predicted, tried, committed}
use Rattle.resumed.proofs.Fitting.{F, Fit, FitState, FitSums, FitWidest, FitPlaces, Row, nought_fits, zeros_fit, end_fit, predicted_fit, fixed_fit, on_fit, last_fit, time_fit, widened_fit, row_set, zeros_row, slide_row, placed_fit, pass_fit, calm_fit}

pub record FitPlan (p : Plan) : Type 0 where
  pub step : F p.settings.h
  pub corrector : F p.settings.corrector_tol
  pub startup : F p.settings.startup_tol
  pub t0 : F p.t0
  pub tf : F p.tf
  pub h : F p.h

pub record FitSlopes (l : Slopes) : Type 0 where
  pub l1 : Fit l.l1
  pub l2 : Fit l.l2
  pub l3 : Fit l.l3

pub record FitTrack (k : Track) : Type 0 where
  pub t : F k.t
  pub state : FitState k.state
  pub sums : FitSums k.sums

pub record FitTrial (k : Trial) : Type 0 where
  pub state : FitState k.state
  pub fa : Fit k.fixed.fa
  pub fb : Fit k.fixed.fb

pub record Good (b : Body) : Type 0 where
  pub plan : FitPlan b.plan
  pub places : FitPlaces b.places
  pub a : Row b.a
  pub slopes : FitSlopes b.slopes
  pub widest : FitWidest b.widest
  pub track : FitTrack b.track
  pub trial : FitTrial b.trial

-- ---- the moves
module _ (b : Body) (g : Good b) where
  pub surveyed_good : (i : ℕ) (x : Triple) → Fit x → Good (surveyed i b x)
  unfolding surveyed
  surveyed_good i x h = record { plan = g.plan; places = g.places; a = row_set _ i x g.a h; slopes = g.slopes; widest = g.widest; track = g.track; trial = g.trial }

  pub slopes_good : (s : Stage) (x : Triple) → Fit x → FitSlopes (with_slope s b.slopes x)
  unfolding with_slope
  slopes_good First x h = record { l1 = h; l2 = g.slopes.l2; l3 = g.slopes.l3 }
  slopes_good Second x h = record { l1 = g.slopes.l1; l2 = h; l3 = g.slopes.l3 }
  slopes_good Third x h = record { l1 = g.slopes.l1; l2 = g.slopes.l2; l3 = h }
  slopes_good Fourth x h = g.slopes

  pub kept_good : (s : Stage) (x : Triple) → Fit x → Good (kept s b x)
  unfolding kept
  kept_good s x h = record { plan = g.plan; places = g.places; a = g.a; slopes = slopes_good s x h; widest = g.widest; track = g.track; trial = g.trial }

  pub on_good : (i : ℕ) (x : Triple) → Good (moved_on i b x)
  unfolding moved_on end_of
  on_good i x = record { plan = g.plan; places = placed_fit (i + 1) _ _ (end_fit _ _ _ _ _ _) g.places; a = g.a; slopes = g.slopes; widest = g.widest; track = g.track; trial = g.trial }

  pub back_good : (i : ℕ) (x : Triple) → Good (moved_back i b x)
  unfolding moved_back end_of
  back_good i x = record { plan = g.plan; places = placed_fit (i - 1) _ _ (end_fit _ _ _ _ _ _) g.places; a = g.a; slopes = g.slopes; widest = g.widest; track = g.track; trial = g.trial }

  pub begun_good : Good (pass_begun b)
  unfolding pass_begun
  begun_good = record { plan = g.plan; places = pass_fit _ _ _ g.places; a = g.a; slopes = g.slopes; widest = calm_fit _; track = g.track; trial = g.trial }

  pub renewed_good : (i : ℕ) (x : Triple) → Fit x → Good (renewed i b x)
  unfolding renewed
  renewed_good i x h = record { plan = g.plan; places = g.places; a = row_set _ i x g.a h; slopes = g.slopes; widest = widened_fit _ _ _ g.widest; track = g.track; trial = g.trial }

  pub made_good : Good (pass_made b)
  unfolding pass_made
  made_good = record { plan = g.plan; places = g.places; a = g.a; slopes = g.slopes; widest = g.widest; track = g.track; trial = g.trial }

  pub launched_good : Good (launched b)
  unfolding launched start_track state_at
  launched_good =
      record {
        plan = g.plan;
        places = g.places;
        a = g.a;
        slopes = g.slopes;
        widest = g.widest;
        track = record { t = time_fit _ _ 8; state = record { r = g.places.r.fit 8; v = g.places.v.fit 8 }; sums = last_fit _ _ _ };
        trial = g.trial;
      }

  pub predicted_good : Good (predicted b)
  unfolding predicted
  predicted_good =
      record {
        plan = g.plan;
        places = g.places;
        a = g.a;
        slopes = g.slopes;
        widest = g.widest;
        track = g.track;
        trial = record { state = predicted_fit _ _ _; fa = (fixed_fit b.a).0; fb = (fixed_fit b.a).1 };
      }

  pub tried_good : (x : State) → FitState x → Good (tried b x)
  unfolding tried
  tried_good x h = record { plan = g.plan; places = g.places; a = g.a; slopes = g.slopes; widest = g.widest; track = g.track; trial = record { state = h; fa = g.trial.fa; fb = g.trial.fb } }

  pub committed_good : (y : State) (x : Triple) → FitState y → Fit x → Good (committed b y x)
  unfolding committed track_on
  committed_good y x h k =
      record {
        plan = g.plan;
        places = g.places;
        a = slide_row _ x g.a k;
        slopes = g.slopes;
        widest = g.widest;
        track = record { t = add-fits binary64 _ _; state = h; sums = on_fit _ _ };
        trial = g.trial;
      }

pub fresh_good : (p : Plan) (r0 v0 : Triple) → FitPlan p → Fit r0 → Fit v0 → Good (fresh_body p r0 v0)
unfolding fresh_body first_places
fresh_good p r0 v0 h r v =
    record {
      plan = h;
      places = record { r = row_set _ 4 r0 zeros_row r; v = row_set _ 4 v0 zeros_row v };
      a = zeros_row;
      slopes = record { l1 = zeros_fit; l2 = zeros_fit; l3 = zeros_fit };
      widest = record { delta = nought_fits; mag = nought_fits };
      track = record { t = nought_fits; state = record { r = zeros_fit; v = zeros_fit }; sums = record { s = zeros_fit; S = zeros_fit } };
      trial = record { state = record { r = zeros_fit; v = zeros_fit }; fa = zeros_fit; fb = zeros_fit };
    }
