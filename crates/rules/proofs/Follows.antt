-- Any line of calls follows the rules.
use mathlib.Core.Path.{◌≡◌, refl, sym, ap, subst, ◌∙◌}
use Prim.Native.Nat.{ℕ}
use native.Mathlib.Nat.{sub-zero}
use mathlib.Core.Bool.{true}
use mathlib.Core.List.{List, [], ◌∷◌}
use lib.ListN.{set}
use lib.Ieee.{Float}
use Rattle.triple.specs.declared.Triple.{Triple}
use Rattle.triple.specs.Nine.{nine_zeros}
use Rattle.refusals.specs.declared.Refusal.TheVariants.{StepNotFinite}
use Rattle.startup.specs.declared.Places.{Places}
use Rattle.startup.specs.Points.{first_places}
use Rattle.plan.specs.declared.Settings.{Settings}
use Rattle.plan.specs.declared.Plan.{Plan}
use Rattle.plan.specs.Plan.{plan_of}
use Rattle.plan.specs.Lawful.{is_lawful}
use Rattle.plan.specs.Verdict.{Verdict, fault_of, verdict_on}
use Rattle.plan.proofs.Verdicts.{Case, not_lawful, too_near, fine, split}
use Rattle.run.specs.declared.Run.{Run}
use Rattle.run.specs.declared.waiting.Waiting.TheVariants.{Epoch}
use Rattle.run.specs.Questions.{epoch_point, question_at}
use Rattle.run.specs.Moves.{fresh_body, surveyed}
use Rattle.gauss_jackson.specs.declared.Answered.{Answered}
use Rattle.gauss_jackson.specs.declared.Outcome.TheVariants.{Refused}
use Rattle.gauss_jackson.specs.Answers.{asking, answered, started_by, started}
use Rattle.rules.specs.Rules.{Course, asks, forward, backward, others, survey, passes, fly, integrate}
use Rattle.rules.specs.Walk.{told, Call, Result, Stop, no_room, settle, walk, begin_by, begin}
use Rattle.rules.specs.Follows.{heard, played, FollowsTheRules}
use Rattle.rules.proofs.Rest.{next, rest_at, line_of, seen}
use Rattle.rules.proofs.Bridge.{asked_is, ended_is}
use Rattle.rules.proofs.Calls.{call_is}

-- from any run at all
follows : (cs : List Call) (run : Run) → played run cs ≡ walk (line_of run) cs
unfolding played walk seen
follows [] run = refl
follows (k ∷ cs) run =
    ap (λ (l : List Result). heard (answered run k.number k.a k.out) ∷ l) (follows cs (answered run k.number k.a k.out).got.run)
    ∙ ap (λ (s : Stop). record { said = s.said; stored = s.stored; out = s.out } ∷ walk s.line cs) (call_is run k)

-- the rest of a started run is the whole integration
started_is : (p : Plan) (r0 v0 : Triple) → rest_at Epoch (fresh_body p r0 v0) ≡ integrate p r0 v0
unfolding rest_at question_at epoch_point next surveyed fresh_body integrate first_places nine_zeros
started_is p r0 v0 =
    ap (λ (m : ℕ). asks (record { t = p.t0; r = r0; v = v0 }) (λ (b : Triple).
    forward 4 4 p (first_places r0 v0) (λ (x : Places).
    backward 4 p x (λ (y : Places).
    survey others p y (set nine_zeros 4 b) (λ (a : List Triple).
    passes m 0 p y a (fly p)))))) (sub-zero p.settings.max_startup_iters)

-- what is seen of a start
unfoldable pub begun : Answered → Stop
begun x = record { said = told x.outcome; stored = x.stored; out = no_room; line = line_of x.run }

pub begins : (s : Settings) (t0 tf : Float) (r0 v0 : Triple) → begun (started s t0 tf r0 v0) ≡ begin s t0 tf r0 v0
unfolding begun started started_by begin begin_by fresh_body plan_of seen told
begins s t0 tf r0 v0 = go (split p)
  where
    p : Plan
    p = plan_of s t0 tf

    by : {v : Verdict} → verdict_on p ≡ v → begun (started_by v p r0 v0) ≡ begin_by v p r0 v0 → begun (started_by (verdict_on p) p r0 v0) ≡ begin_by (verdict_on p) p r0 v0
    by e h = subst (λ (v : Verdict). begun (started_by v p r0 v0) ≡ begin_by v p r0 v0) (sym e) h

    asked : is_lawful p ≡ true → begun (asking Epoch (record { number = 0; evals = 0 }) (fresh_body p r0 v0)) ≡ settle (integrate p r0 v0) 0 0 no_room
    asked e =
        asked_is Epoch (record { number = 0; evals = 0 }) (fresh_body p r0 v0) no_room e refl (refl, record { passes = refl; steps = refl })
        ∙ ap (λ (t : Course). settle t 0 0 no_room) (started_is p r0 v0)

    go : Case p → begun (started_by (verdict_on p) p r0 v0) ≡ begin_by (verdict_on p) p r0 v0
    go (not_lawful l e) = by e (ended_is (Refused (fault_of p)) no_room)
    go (too_near l n e) = by e (ended_is (Refused StepNotFinite) no_room)
    go (fine l n e) = by e (asked l)

-- demand 2
pub follows_the_rules : (s : Settings) (t0 tf : Float) (r0 v0 : Triple) (cs : List Call) → FollowsTheRules s t0 tf r0 v0 cs
unfolding begun
follows_the_rules s t0 tf r0 v0 cs =
    record {
      first = ap (λ (x : Stop). x.said) (begins s t0 tf r0 v0);
      then = follows cs (started s t0 tf r0 v0).run ∙ ap (λ (x : Stop). walk x.line cs) (begins s t0 tf r0 v0);
    }
