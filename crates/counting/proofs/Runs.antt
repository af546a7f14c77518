-- Demand 3 of runs, from the theorem on trees and from `follows_the_rules`.
use Rattle.std.proofs.Common.{Ok}
use mathlib.Core.Path.{◌≡◌, sym, ap, ◌∙◌, subst}
use Prim.Native.Nat.{ℕ, ◌≤◌, ◌<◌}
use native.Mathlib.Omega.{arith}
use mathlib.Core.List.{List, []}
use lib.IntN.{ℤ, nat_abs}
use lib.Ieee.{Float}
use Rattle.triple.specs.declared.Triple.{Triple}
use Rattle.plan.specs.declared.Settings.{Settings}
use Rattle.plan.specs.Plan.{plan_of}
use Rattle.plan.specs.Verdict.{verdict_on}
use Rattle.rules.specs.Rules.{integrate}
use Rattle.gauss_jackson.specs.Answers.{started}
use Rattle.rules.specs.Walk.{question, told, Call, Result, Line, Stop, no_room, settle, walk, begin}
use Rattle.rules.specs.Follows.{played}
use Rattle.rules.proofs.Follows.{follows_the_rules}
use Rattle.counting.specs.Paths.{Claims, Always}
use Rattle.counting.specs.Counting.{span_of, most_for, most_before, Bounds, OnTime, on_time}
use Rattle.counting.specs.Runs.{Going, answers_in, Finishes, FinishesOnTime}
use Rattle.counting.specs.Rooms.{Roomy, room_for}
use Rattle.counting.proofs.OnTime.{ends_on_time}
use Rattle.counting.proofs.Lines.{Limits, going, finishing}
use Rattle.counting.proofs.Starts.{accepted_start}

-- an accepted start asks at its own values
pub line_begins : (s : Settings) (t0 tf : Float) (r0 v0 : Triple) → verdict_on (plan_of s t0 tf) ≡ Ok tt
    → told (started s t0 tf r0 v0).outcome ≡ question 0 (record { t = t0; r = r0; v = v0 })
unfolding settle integrate plan_of
line_begins s t0 tf r0 v0 accepted = (follows_the_rules s t0 tf r0 v0 []).first ∙ ap (λ (x : Stop). x.said) (accepted_start s t0 tf r0 v0 accepted)

-- where its tree bears any claims out, with at most E answers and N samples, so does every line of calls with room
module _ (s : Settings) (t0 tf : Float) (r0 v0 : Triple) (accepted : verdict_on (plan_of s t0 tf) ≡ Ok tt)
    (c : Claims) (E N : ℕ) (l : Limits c E N) (always : Always c 0 0 (integrate (plan_of s t0 tf) r0 v0)) where
  abbrev results : List Call → List Result
  results cs = played (started s t0 tf r0 v0).run cs

  abbrev line : Line
  line = (settle (integrate (plan_of s t0 tf) r0 v0) 0 0 no_room).line

  walks : (cs : List Call) → Roomy line cs → Going c E 0 0 0 cs (walk line cs)
  unfolding settle integrate Always
  walks cs r = going c E N l 0 0 0 _ _ cs always r

  pub line_goes : (cs : List Call) → Roomy (begin s t0 tf r0 v0).line cs → Going c E 0 0 0 cs (results cs)
  line_goes cs r =
      let e = accepted_start s t0 tf r0 v0 accepted in
      subst (Going c E 0 0 0 cs)
      (sym ((follows_the_rules s t0 tf r0 v0 cs).then ∙ ap (λ (x : Stop). walk x.line cs) e))
      (walks cs (subst (λ (x : Stop). Roomy x.line cs) e r))

  pub line_ends : 0 < E → (cs : List Call) → Roomy (begin s t0 tf r0 v0).line cs → E ≤ answers_in 0 cs (results cs) → Finishes (results cs)
  line_ends some cs r u = finishing c E N l 0 0 0 cs (results cs) (line_goes cs r) some (omega arith)

module _ {s : Settings} {t0 tf : Float} {z0 zf hz : ℤ} (b : Bounds s t0 tf z0 zf hz) (r0 v0 : Triple) where
  pub limits : Limits (on_time s t0 tf z0 zf (nat_abs hz)) (most_before s (span_of z0 zf) (nat_abs hz)) (room_for s (span_of z0 zf) (nat_abs hz))
  unfolding on_time room_for
  limits =
      record {
        answers = λ (e n : ℕ) (t : Float) (steps startups : ℕ) (f : OnTime s t0 tf z0 zf (nat_abs hz) e n t steps startups). f.at_most_before;
        samples = λ (e n : ℕ) (t : Float) (steps startups : ℕ) (f : OnTime s t0 tf z0 zf (nat_abs hz) e n t steps startups). let q = f.samples in omega arith;
        never = λ (e n : ℕ) (f : ⊥). f;
      }

  -- more than 40 answers are due, since the startup alone takes 41
  pub some_answers : 0 < most_before s (span_of z0 zf) (nat_abs hz)
  unfolding most_before most_for
  some_answers = omega arith

  pub finishes_on_time : (cs : List Call) → Roomy (begin s t0 tf r0 v0).line cs → FinishesOnTime s t0 tf z0 zf hz r0 v0 cs
  finishes_on_time cs r =
      let x = ends_on_time b r0 v0 in
      let most = most_before s (span_of z0 zf) (nat_abs hz) in
      let room = room_for s (span_of z0 zf) (nat_abs hz) in
      let claims = on_time s t0 tf z0 zf (nat_abs hz) in
      record {
        first = line_begins s t0 tf r0 v0 x.accepted;
        then = line_goes s t0 tf r0 v0 x.accepted claims most room limits x.always cs r;
        ends = line_ends s t0 tf r0 v0 x.accepted claims most room limits x.always some_answers cs r;
      }
