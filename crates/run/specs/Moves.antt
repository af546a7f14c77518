-- What an answer makes of the mathematics: from a body to the next.
use Rattle.std.specs.Prelude.{ℕ, ◌+◌, ◌-◌, List, set, Float}
use Rattle.std.specs.Float.Ieee.{neg}
use Rattle.triple.specs.declared.Triple.{Triple}
use Rattle.triple.specs.declared.State.{State}
use Rattle.triple.specs.declared.Point.{Point}
use Rattle.triple.specs.Arithmetic.{nought, zeros}
use Rattle.triple.specs.Nine.{at, nine_zeros, slid}
use Rattle.rk4.specs.Rk4.{end_of_step}
use Rattle.sums.specs.Sums.{predicted_state, fixed_of}
use Rattle.startup.specs.Points.{first_places, placed}
use Rattle.startup.specs.Passes.{pass_places, widened, calm_at}
use Rattle.startup.specs.declared.Places.{Places}
use Rattle.startup.specs.declared.Widest.{Widest}
use Rattle.plan.specs.declared.Plan.{Plan}
use Rattle.run.specs.declared.Track.{Track}
use Rattle.run.specs.declared.Trial.{Trial}
use Rattle.run.specs.declared.Body.{Body}
use Rattle.run.specs.declared.Slopes.{Slopes}
use Rattle.run.specs.declared.waiting.Stage.{Stage}
use Rattle.run.specs.declared.waiting.Stage.TheVariants.{First, Second, Third, Fourth}
use Rattle.conditions.specs.Conditions.{left_at}
use Rattle.run.specs.Tracks.{start_track, track_on, tail_from}
use Rattle.run.specs.Questions.{grid_point}

-- ---- a body with one part changed
abbrev with_places : Body → Places → Body
with_places b x = record b { places = x }

abbrev with_a : Body → List Triple → Body
with_a b x = record b { a = x }

abbrev with_slopes : Body → Slopes → Body
with_slopes b x = record b { slopes = x }

abbrev with_widest : Body → Widest → Body
with_widest b x = record b { widest = x }

abbrev with_passes : Body → ℕ → Body
with_passes b x = record b { startup_iters = x }

abbrev with_track : Body → Track → Body
with_track b x = record b { track = x }

abbrev with_trial : Body → Trial → Body
with_trial b x = record b { trial = x }

-- before the first answer
unfoldable pub fresh_body : Plan → Triple → Triple → Body
fresh_body p r0 v0 =
    record {
      plan = p;
      places = first_places r0 v0;
      a = nine_zeros;
      slopes = record { l1 = zeros; l2 = zeros; l3 = zeros };
      widest = record { delta = nought; mag = nought };
      startup_iters = 0;
      track = record { t = nought; steps = 0; state = record { r = zeros; v = zeros }; sums = record { s = zeros; big_s = zeros } };
      trial = record { state = record { r = zeros; v = zeros }; fixed = record { fa = zeros; fb = zeros } };
    }

-- "a[4] at t0", and "Then a[i] for i = 0, 1, 2, 3, 5, 6, 7, 8"
unfoldable pub surveyed : ℕ → Body → Triple → Body
surveyed i b a = with_a b (set b.a i a)

-- ---- an RK4 step: its first three accelerations are kept, the fourth ends it
unfoldable pub with_slope : Stage → Slopes → Triple → Slopes
with_slope First l a = record { l1 = a; l2 = l.l2; l3 = l.l3 }
with_slope Second l a = record { l1 = l.l1; l2 = a; l3 = l.l3 }
with_slope Third l a = record { l1 = l.l1; l2 = l.l2; l3 = a }
with_slope Fourth l a = l

unfoldable pub kept : Stage → Body → Triple → Body
kept s b a = with_slopes b (with_slope s b.slopes a)

unfoldable pub end_of : Point → Float → Slopes → Triple → State
end_of p h l a = end_of_step p h l.l1 l.l2 l.l3 a

-- an RK4 step over h from point i to point j
abbrev pub moved : (i j : ℕ) → Float → Body → Triple → Body
moved i j h b a = with_places b (placed j (end_of (grid_point b i) h b.slopes a) b.places)

-- "RK4 forward to points 5, 6, 7, 8, then backward with -h to 3, 2, 1, 0"; each step starts from point i
unfoldable pub moved_on : ℕ → Body → Triple → Body
moved_on i b a = moved i (i + 1) b.plan.h b a

unfoldable pub moved_back : ℕ → Body → Triple → Body
moved_back i b a = moved i (i - 1) (neg b.plan.h) b a

-- ---- a startup pass: all points corrected from the same a, then "the eight accelerations afresh, in order"
unfoldable pub pass_begun : Body → Body
pass_begun b = with_widest (with_places b (pass_places b.plan.h b.places b.a)) (calm_at b.a)

unfoldable pub renewed : ℕ → Body → Triple → Body
renewed i b a = with_widest (with_a b (set b.a i a)) (widened b.widest (at b.a i) a)

unfoldable pub pass_made : Body → Body
pass_made b = with_passes b (b.startup_iters + 1)

-- the startup is done
unfoldable pub launched : Body → Body
launched b = with_track b (start_track b.plan b.places b.a)

-- ---- a step: predicted, tried again by each pass, committed
unfoldable pub predicted : Body → Body
predicted b = with_trial b (record { state = predicted_state b.plan.h b.track.sums b.a; fixed = fixed_of b.a })

unfoldable pub tried : Body → State → Body
tried b x = with_trial b (record { state = x; fixed = b.trial.fixed })

-- "commit: slide, s = s + a_new, S = S', t = t + h, one step"
unfoldable pub committed : Body → State → Triple → Body
committed b y a = with_track (with_a b (slid b.a a)) (track_on b.plan b.track y a)

-- the end of the tail: "RK4 over rem"
unfoldable pub end_of_tail : Body → Triple → State
end_of_tail b a = end_of (tail_from b.track) (left_at b.plan b.track.t) b.slopes a
