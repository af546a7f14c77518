-- W-201: "Taking up an older form drops the answers accepted since: they no longer count and are asked again."
-- The proofs are `drops_the_answers` and `finishes_with_forms` in proofs/Older.antt.
use Rattle.std.specs.Prelude.{◌≡◌, Bool, true, false, cond, List, [], ◌∷◌, ◌++◌, map, ℤ, get_or, Float}
use Rattle.triple.specs.declared.Triple.{Triple}
use Rattle.plan.specs.declared.Settings.{Settings}
use Rattle.gauss_jackson.specs.Answers.{started}
use Rattle.rules.specs.Walk.{Call, Result, Line, open_at, over, called, walk, begin}
use Rattle.rules.specs.Follows as plain
use Rattle.counting.specs.Counting.{Bounds}
use Rattle.counting.specs.Runs.{FinishesOnTime}
use Rattle.counting.specs.Rooms.{Roomy}
use Rattle.resumed.specs.Outside.{Outside}
use Rattle.resumed.specs.Lines.{Event, call, put_away, take_up, CallsDoubles, played}

-- where a line stands after calls
unfoldable pub line_after : Line → List Call → Line
line_after l [] = l
line_after l (c ∷ cs) = line_after (called l c).line cs

unfoldable pub is_open : Line → Bool
is_open (open_at n e q k) = true
is_open over = false

-- the calls that count after the events: those since the start, `done` so far; a form that is taken up brings back those that counted when it was put
-- away, and drops all since
unfoldable pub counting_calls : Line → (done : List Call) → (forms : List (List Call)) → List Event → List Call
counting_calls l done forms [] = done
counting_calls l done forms (call c ∷ es) = counting_calls l (done ++ (c ∷ [])) forms es
counting_calls l done forms (put_away ∷ es) = counting_calls l done (cond (is_open (line_after l done)) (forms ++ (done ∷ [])) forms) es
counting_calls l done forms (take_up k ∷ es) = counting_calls l (get_or forms k done) forms es

abbrev pub count_after : Settings → (t0 tf : Float) → (r0 v0 : Triple) → List Event → List Call
count_after s t0 tf r0 v0 es = counting_calls (begin s t0 tf r0 v0).line [] [] es

-- after any events, further calls: what they are told is what the rules give to the calls that count and these, and no other call has a part in it
pub record DropsTheAnswers (s : Settings) (t0 tf : Float) (r0 v0 : Triple) (es : List Event) (cs : List Call) : Type 0 where
  pub later : List Result
  pub heard : played (started s t0 tf r0 v0).run [] (es ++ map call cs) ≡ played (started s t0 tf r0 v0).run [] es ++ later
  pub ruled : walk (begin s t0 tf r0 v0).line (count_after s t0 tf r0 v0 es ++ cs) ≡ walk (begin s t0 tf r0 v0).line (count_after s t0 tf r0 v0 es) ++ later

abbrev pub OlderForms : Type 0
OlderForms =
    (s : Settings) (t0 tf : Float) (r0 v0 : Triple) (es : List Event) (cs : List Call)
    → Outside s t0 tf r0 v0 → CallsDoubles (es ++ map call cs) → DropsTheAnswers s t0 tf r0 v0 es cs

-- Demand 3 of such lines, whole numbers within 01's bounds: the calls that count and the further ones are a line that finishes on time, and what the
-- further ones are told is the end of what that line is told.
pub record FinishesWithForms (s : Settings) (t0 tf : Float) (z0 zf hz : ℤ) (r0 v0 : Triple) (es : List Event) (cs : List Call) : Type 0 where
  pub in_time : FinishesOnTime s t0 tf z0 zf hz r0 v0 (count_after s t0 tf r0 v0 es ++ cs)
  pub later : List Result
  pub heard : played (started s t0 tf r0 v0).run [] (es ++ map call cs) ≡ played (started s t0 tf r0 v0).run [] es ++ later
  pub same : plain.played (started s t0 tf r0 v0).run (count_after s t0 tf r0 v0 es ++ cs) ≡ plain.played (started s t0 tf r0 v0).run (count_after s t0 tf r0 v0 es) ++ later

abbrev pub DemandThreeWithForms : Type 0
DemandThreeWithForms =
    (s : Settings) (t0 tf : Float) (z0 zf hz : ℤ) (r0 v0 : Triple) (es : List Event) (cs : List Call)
    → Bounds s t0 tf z0 zf hz → Outside s t0 tf r0 v0 → CallsDoubles (es ++ map call cs)
    → Roomy (begin s t0 tf r0 v0).line (count_after s t0 tf r0 v0 es ++ cs)
    → FinishesWithForms s t0 tf z0 zf hz r0 v0 es cs
