-- What changes in a run by such an answer, and the run with what changed. By what was looked at m is where the run waits then, y where the step ends,
-- n the steps made; the other letters are those of `Looking`.
use Rattle.std.specs.Prelude.{ℕ, Bool, cond, List, Float}
use Rattle.std.specs.Float.{binary64}
use Rattle.std.specs.Float.Ieee.{add}
use Rattle.triple.specs.declared.Triple.{Triple}
use Rattle.triple.specs.declared.State.{State}
use Rattle.triple.specs.Sampled.{at_time}
use Rattle.triple.specs.Nine.{slid}
use Rattle.sums.specs.Sums.{on_sums, predicted_state, fixed_of}
use Rattle.plan.specs.declared.Plan.{Plan}
use Rattle.plan.specs.Limits.{wants_samples}
use Rattle.run.specs.declared.Mark.{Mark}
use Rattle.run.specs.declared.Track.{Track}
use Rattle.run.specs.declared.Trial.{Trial}
use Rattle.run.specs.declared.Run.{Run}
use Rattle.run.specs.Samples.{Room, step_sample, kept_sample}
use Rattle.gauss_jackson.specs.declared.Question.{Question}
use Rattle.gauss_jackson.specs.declared.Outcome.TheVariants.{Ask}
use Rattle.gauss_jackson.specs.Answers.{Given, question_under}
use Rattle.fastpath.specs.declared.Tried.{Tried}
use Rattle.fastpath.specs.declared.Stepped.{Stepped}

unfoldable pub asked_at : Mark → (t : Float) → State → Question
asked_at m t x = question_under m.count.number (at_time x t)

-- the open step once more
unfoldable pub asked_again : Mark → State → Plan → Track → Trial → Tried
asked_again m y p k t =
    record {
      mark = m;
      trial = record { state = y; fixed = t.fixed };
      question = asked_at m (add binary64 k.t p.h) y;
    }

-- the newest point, one step on
unfoldable pub track_by : State → (n : ℕ) → Plan → Track → Triple → Track
track_by y n p k a = record { t = add binary64 k.t p.h; steps = n; state = y; sums = on_sums k.sums a }

-- how many samples a step stores
unfoldable pub stored_by : (wanted : Bool) → ℕ
stored_by wanted = cond wanted 1 0

-- the step is made, and the next one is open at its prediction
unfoldable pub made_step : Mark → State → (n : ℕ) → Plan → Track → (old : List Triple) → Triple → Stepped
made_step m y n p k old a =
    let next = track_by y n p k a in
    let z = predicted_state p.h next.sums (slid old a) in
    record {
      mark = m;
      a = slid old a;
      track = next;
      trial = record { state = z; fixed = fixed_of (slid old a) };
      question = asked_at m (add binary64 next.t p.h) z;
      stored = stored_by (wants_samples p.settings);
    }

-- the room with the sample of the step that is made
unfoldable pub kept_step : State → (n : ℕ) → Plan → Track → (old : List Triple) → Triple → (from : ℕ) → List Float → List Float
kept_step y n p k old a from numbers =
    let next = track_by y n p k a in kept_sample (wants_samples p.settings) from next.steps (step_sample next (slid old a)) numbers

-- ---- the run with what changed
abbrev pub with_trial : Run → Mark → Trial → Run
with_trial run m t =
    record {
      mark = m;
      body =
          record {
            plan = run.body.plan;
            places = run.body.places;
            a = run.body.a;
            slopes = run.body.slopes;
            widest = run.body.widest;
            startup_iters = run.body.startup_iters;
            track = run.body.track;
            trial = t;
          };
    }

abbrev pub with_step : Run → Mark → (window : List Triple) → Track → Trial → Run
with_step run m window k t =
    record {
      mark = m;
      body =
          record {
            plan = run.body.plan;
            places = run.body.places;
            a = window;
            slopes = run.body.slopes;
            widest = run.body.widest;
            startup_iters = run.body.startup_iters;
            track = k;
            trial = t;
          };
    }

-- ---- what such an answer gives, as `answered` tells it
abbrev pub tried_given : Run → Tried → Room → Given
tried_given run d out = record { got = record { run = with_trial run d.mark d.trial; outcome = Ask d.question; stored = 0 }; out = out }

abbrev pub stepped_given : Run → Stepped → Room → Given
stepped_given run d out = record { got = record { run = with_step run d.mark d.a d.track d.trial; outcome = Ask d.question; stored = d.stored }; out = out }
