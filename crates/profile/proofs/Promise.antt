-- What the profile accepts is within 01's bounds, and so what it told is kept; what it refuses stands as said to the plain start.
use Rattle.std.proofs.Common.{◌≡◌, ℕ, ◌+◌, ◌<◌, ◌≤◌, Bool, true, false, cond, not, ltb, List, sym, refl, ap, ◌∙◌, subst, arith, ltb-false, Result, Ok, Err}
use mathlib.Core.Bool.{false≢true}
use lib.Ieee.{Float}
use borrow.Author.Tests.{not-false}
use Rattle.triple.specs.declared.Triple.{Triple}
use Rattle.triple.specs.Doubles.{Double}
use Rattle.refusals.specs.declared.Refusal.{Refusal}
use Rattle.refusals.specs.declared.Refusal.TheVariants.{StepNotFinite, Setting, BlankDate, NotWhole, TooFewSteps}
use Rattle.plan.specs.declared.Settings.{Settings}
use Rattle.plan.specs.declared.Plan.{Plan}
use Rattle.plan.specs.Limits.{are_within_limits, wants_samples}
use Rattle.plan.specs.Plan.{plan_of, is_too_near}
use Rattle.plan.specs.Lawful.{is_dated, is_lawful}
use Rattle.plan.specs.Verdict.{Verdict, fault_of, verdict_on}
use Rattle.plan.proofs.Verdicts.{by_tests as verdict-by-tests}
use Rattle.gauss_jackson.specs.Answers.{started}
use Rattle.run.specs.declared.Run.{Run}
use Rattle.rules.specs.Rules.{integrate}
use Rattle.rules.specs.Walk.{told, Call, begin}
use Rattle.rules.specs.Follows.{played}
use Rattle.whole.specs.Whole.{IsWhole}
use Rattle.counting.specs.Paths.{Claims, Always}
use Rattle.counting.specs.Counting.{steps_for, when_for, Bounds, OnTime, on_time}
use Rattle.counting.specs.Runs.{Going, answers_in, Finishes}
use Rattle.counting.specs.Rooms.{Roomy, room_for}
use Rattle.counting.proofs.Claims.{always_follows}
use Rattle.counting.proofs.OnTime.{ends_on_time}
use Rattle.counting.proofs.Lines.{Limits}
use Rattle.counting.proofs.Runs.{line_begins, line_goes, line_ends, some_answers, finishes_on_time}
use Rattle.counting.proofs.Rooms.{room_for_all}
use Rattle.profile.specs.declared.Cost.{Cost}
use Rattle.profile.specs.declared.WholeStart.{WholeStart}
use Rattle.profile.specs.Wholes.{whole_of, are_whole}
use Rattle.profile.specs.Costs.{span_in, step_in, cost_for, forecast_of}
use Rattle.profile.specs.Start.{with_cost, whole_by, started_whole}
use Rattle.profile.specs.Promise.{EndsAsTold, as_told, KeepsItsWord, Promise, or_else, RefusesAlike}
use Rattle.profile.proofs.Reading.{reads_exactly}
use Rattle.profile.proofs.Plainly.{three, far}
use Rattle.profile.proofs.Forecasts.{by_tests}

-- ---- an accepted forecast has passed every test
abbrev accepts : Result Cost Refusal → Bool
accepts (Ok c) = true
accepts (Err e) = false

abbrev cost_in : Cost → Result Cost Refusal → Cost
cost_in d (Ok c) = c
cost_in d (Err e) = d

passed : (b : Bool) (e : Refusal) (x : Result Cost Refusal) (c : Cost) → cond b (Err e) x ≡ Ok c → (b ≡ false) × (x ≡ Ok c)
passed true e x c h = absurd (false≢true (ap accepts h))
passed false e x c h = (refl, h)

pub record Passed (s : Settings) (t0 tf : Float) (c : Cost) : Type 0 where
  pub within : are_within_limits s ≡ true
  pub dated : is_dated (plan_of s t0 tf) ≡ true
  pub whole : are_whole t0 tf s.h ≡ true
  pub near : is_too_near (plan_of s t0 tf) ≡ false
  pub ample : ltb s.max_steps (steps_for (span_in t0 tf) (step_in s)) ≡ false
  pub cost : c ≡ cost_for s (span_in t0 tf) (step_in s)

pub accepted : (s : Settings) (t0 tf : Float) (c : Cost) → forecast_of s t0 tf ≡ Ok c → Passed s t0 tf c
unfolding forecast_of
accepted s t0 tf c h =
    let a = passed (not (are_within_limits s)) Setting _ c h in
    let b = passed (not (is_dated (plan_of s t0 tf))) BlankDate _ c a.1 in
    let d = passed (not (are_whole t0 tf s.h)) NotWhole _ c b.1 in
    let e = passed (is_too_near (plan_of s t0 tf)) StepNotFinite _ c d.1 in
    let f = passed (ltb s.max_steps (steps_for (span_in t0 tf) (step_in s))) TooFewSteps _ c e.1 in
    record {
      within = not-false _ a.0;
      dated = not-false _ b.0;
      whole = not-false _ d.0;
      near = e.0;
      ample = f.0;
      cost = sym (ap (cost_in c) f.1);
    }

-- ---- so it is within 01's bounds
bounds_of : (s : Settings) (t0 tf : Float) (c : Cost) → Double t0 → Double tf → Double s.h → Passed s t0 tf c → Bounds s t0 tf (whole_of t0) (whole_of tf) (whole_of s.h)
unfolding span_in step_in
bounds_of s t0 tf c f g k p =
    let w = three t0 tf s.h p.whole in
    let a = (reads_exactly t0 f).time_read w.start in
    let b = (reads_exactly tf g).time_read w.end in
    let d = (reads_exactly s.h k).step_read w.step in
    record {
      start_whole = a.0;
      end_whole = b.0;
      step_whole = d.0;
      start_size = a.1;
      end_size = b.1;
      step_size = d.2;
      moves = d.1;
      far = far s t0 tf f g k p.whole p.near;
      limits = p.within;
      enough = ltb-false _ _ p.ample;
    }

-- ---- demand 3's claims, in the numbers that were told
module _ (s : Settings) (t0 tf : Float) (r0 v0 : Triple) (b : Bounds s t0 tf (whole_of t0) (whole_of tf) (whole_of s.h)) where
  abbrev c : Cost
  c = cost_for s (span_in t0 tf) (step_in s)

  kept : (e n : ℕ) (t : Float) (steps startups : ℕ) → OnTime s t0 tf (whole_of t0) (whole_of tf) (step_in s) e n t steps startups → EndsAsTold c (whole_of tf) e n t steps
  unfolding cost_for span_in room_for
  kept e n t steps startups o = record { ends_at = o.ends_at; in_steps = o.in_steps; samples = o.samples; at_least = o.at_least_before; at_most = o.at_most_before }

  fits_in : (w : Bool) (n K : ℕ) → w ≡ true → n ≤ K → n < cond w (K + 1) 0
  fits_in true n K e l = omega arith
  fits_in false n K e l = absurd (false≢true e)

  all_kept : Always (as_told c (whole_of t0) (whole_of tf) (step_in s)) 0 0 (integrate (plan_of s t0 tf) r0 v0)
  unfolding as_told on_time cost_for span_in step_in room_for
  all_kept =
      always_follows (on_time s t0 tf (whole_of t0) (whole_of tf) (step_in s)) (as_told c (whole_of t0) (whole_of tf) (step_in s))
      (λ (n : ℕ) (t : Float) (h : (wants_samples s ≡ true) × (n ≤ steps_for (span_in t0 tf) (step_in s)) × IsWhole t (when_for (whole_of t0) (whole_of tf) (step_in s) n)).
      (fits_in (wants_samples s) n (steps_for (span_in t0 tf) (step_in s)) h.0 h.1, h.2))
      kept (λ (e n : ℕ) (x : ⊥). x) 0 0 (integrate (plan_of s t0 tf) r0 v0) (ends_on_time b r0 v0).always

  limits : Limits (as_told c (whole_of t0) (whole_of tf) (step_in s)) c.most c.samples
  unfolding as_told
  limits =
      record {
        answers = λ (e n : ℕ) (t : Float) (steps startups : ℕ) (k : EndsAsTold c (whole_of tf) e n t steps). k.at_most;
        samples = λ (e n : ℕ) (t : Float) (steps startups : ℕ) (k : EndsAsTold c (whole_of tf) e n t steps). let q = k.samples in omega arith;
        never = λ (e n : ℕ) (x : ⊥). x;
      }

  some : 0 < c.most
  unfolding cost_for span_in step_in
  some = some_answers b r0 v0

  abbrev claims : Claims
  claims = as_told c (whole_of t0) (whole_of tf) (step_in s)

  kept_promise : forecast_of s t0 tf ≡ Ok c → KeepsItsWord s t0 tf r0 v0 c
  unfolding started_whole whole_by with_cost cost_for span_in step_in
  kept_promise h =
      let fine = (ends_on_time b r0 v0).accepted in
      let same : started_whole s t0 tf r0 v0 ≡ with_cost (started s t0 tf r0 v0) c = ap (λ (x : Result Cost Refusal). whole_by x (started s t0 tf r0 v0)) h in
      let run : (started s t0 tf r0 v0).run ≡ (started_whole s t0 tf r0 v0).run = sym (ap (λ (x : WholeStart). x.run) same) in
      record {
        plainly = same;
        accepted = fine;
        asks = ap (λ (x : WholeStart). told x.told.outcome) same ∙ line_begins s t0 tf r0 v0 fine;
        room = refl;
        enough = room_for_all b r0 v0;
        goes = λ (cs : List Call) (r : Roomy (begin s t0 tf r0 v0).line cs).
            subst (λ (x : Run). Going claims c.most 0 0 0 cs (played x cs)) run (line_goes s t0 tf r0 v0 fine claims c.most c.samples limits all_kept cs r);
        finishes = λ (cs : List Call) (r : Roomy (begin s t0 tf r0 v0).line cs).
            subst (λ (x : Run). c.most ≤ answers_in 0 cs (played x cs) → Finishes (played x cs)) run
            (line_ends s t0 tf r0 v0 fine claims c.most c.samples limits all_kept some cs r);
        in_time = finishes_on_time b r0 v0;
        bounds = b;
      }

pub keeps : Promise
keeps s t0 tf r0 v0 c f g k h =
    let p = accepted s t0 tf c h in
    subst (KeepsItsWord s t0 tf r0 v0) (sym p.cost) (kept_promise s t0 tf r0 v0 (bounds_of s t0 tf c f g k p) (h ∙ ap Ok p.cost))

-- ---- refused
module _ (s : Settings) (t0 tf : Float) where
  abbrev p : Plan
  p = plan_of s t0 tf

  abbrev counted : Result Cost Refusal
  counted = cond (ltb s.max_steps (steps_for (span_in t0 tf) (step_in s))) (Err TooFewSteps) (Ok (cost_for s (span_in t0 tf) (step_in s)))

  of_whole : (l d n : Bool) → are_within_limits s ≡ l → is_dated p ≡ d → is_too_near p ≡ n → are_whole t0 tf s.h ≡ true → forecast_of s t0 tf ≡ or_else (verdict_on p) counted
  unfolding or_else plan_of
  of_whole false d n e f g w = by_tests s t0 tf false d true n _ e f w g refl ∙ sym (ap (λ (v : Verdict). or_else v counted) (verdict-by-tests p false d n e f g))
  of_whole true false n e f g w = by_tests s t0 tf true false true n _ e f w g refl ∙ sym (ap (λ (v : Verdict). or_else v counted) (verdict-by-tests p true false n e f g))
  of_whole true true true e f g w = by_tests s t0 tf true true true true _ e f w g refl ∙ sym (ap (λ (v : Verdict). or_else v counted) (verdict-by-tests p true true true e f g))
  of_whole true true false e f g w = by_tests s t0 tf true true true false _ e f w g refl ∙ sym (ap (λ (v : Verdict). or_else v counted) (verdict-by-tests p true true false e f g))

  of_others : (l d : Bool) → are_within_limits s ≡ l → is_dated p ≡ d → are_whole t0 tf s.h ≡ false → forecast_of s t0 tf ≡ cond (is_lawful p) (Err NotWhole) (Err (fault_of p))
  unfolding is_lawful fault_of plan_of
  of_others false d e f w = rw (e) (by_tests s t0 tf false d false _ _ e f w refl refl)
  of_others true false e f w = rw (e, f) (by_tests s t0 tf true false false _ _ e f w refl refl)
  of_others true true e f w = rw (e, f) (by_tests s t0 tf true true false _ _ e f w refl refl)

  pub refuses_alike : RefusesAlike s t0 tf
  refuses_alike =
      record {
        whole = of_whole (are_within_limits s) (is_dated p) (is_too_near p) refl refl refl;
        others = of_others (are_within_limits s) (is_dated p) refl refl;
      }
