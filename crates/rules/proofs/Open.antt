-- A question that is told is one that can be answered.
use Rattle.std.proofs.Common.{Ok, Err}
use mathlib.Core.Path.{◌≡◌, refl, sym, ap, subst, ◌∙◌}
use Prim.Native.Nat.{ℕ, ◌+◌, ◌%◌}
use mathlib.Core.Bool.{Bool, true, false, cond, false≢true}
use lib.Dec.{eqb}
use lib.ListN.{length}
use lib.Ieee.{Float}
use Rattle.plan.specs.declared.Settings.{Settings}
use Rattle.plan.specs.declared.Plan.{Plan}
use Rattle.plan.specs.Plan.{plan_of}
use Rattle.plan.specs.Verdict.{Verdict, verdict_on}
use Rattle.run.specs.declared.Run.{Run}
use Rattle.triple.specs.declared.Triple.{Triple}
use Rattle.run.specs.Limits.{numbering}
use Rattle.run.specs.Waiting.{waits_at}
use Rattle.run.specs.Samples.{Room, has_room, put_all}
use Rattle.run.specs.Sound.{is_sound}
use Rattle.gauss_jackson.specs.declared.Outcome.{Outcome}
use Rattle.gauss_jackson.specs.declared.Outcome.TheVariants.{Refused}
use Rattle.refusals.specs.Numbers.{number_of}
use Rattle.refusals.specs.declared.Refusal.TheVariants.{NoQuestion, NotThatQuestion}
use Rattle.gauss_jackson.specs.Answers.{quiet, next_count, question_of, answered_at, refusing, answered, started, open_question}
use Rattle.rules.specs.Rules.{Course, asks, stores, ends, exceeds, integrate}
use Rattle.rules.specs.Walk.{Said, question, refused, finished, told, Call, Line, open_at, over, Stop, after_storing, no_room, settle, called, begin_by, begin}
use Rattle.rules.specs.Follows.{NeverSeven, TellsAgain}
use Rattle.rules.proofs.Rest.{rest_at, rest, opened, line_of, seen}
use Rattle.rules.proofs.Calls.{call_is}
use Rattle.rules.proofs.Follows.{begun, begins}

unfoldable pub is_open : Line → Bool
is_open (open_at n e q k) = true
is_open over = false

abbrev pub is_asked : Said → Bool
is_asked (question n q) = true
is_asked (finished t y e steps startups) = false
is_asked (refused n) = false

-- the question at which a line stands
unfoldable pub standing : Line → Said
standing (open_at n e q k) = question n q
standing over = refused 7

-- what asks leaves the line open, at the question asked
Left : Stop → Type 0
Left x = is_asked x.said ≡ true → (is_open x.line ≡ true) × (standing x.line ≡ x.said)

left_by : (d : Bool) (x y : Stop) → Left x → Left y → Left (cond d x y)
left_by true x y f g = f
left_by false x y f g = g

nothing_asked : (i : ℕ) (out : Room) (l : Line) → Left (record { said = refused i; stored = 0; out = out; line = l })
unfolding Left
nothing_asked i out l h = absurd (false≢true h)

settled_left : (t : Course) (n e : ℕ) (out : Room) → Left (settle t n e out)
unfolding settle after_storing is_open standing Left
settled_left (asks q k) n e out = λ h. (refl, refl)
settled_left (stores i ss t) n e out = left_by (has_room i (length ss) out) _ _ (settled_left t n e (put_all i ss out)) (nothing_asked 6 out over)
settled_left (ends t y steps startups) n e out = λ h. absurd (false≢true h)
settled_left exceeds n e out = nothing_asked 2 out over

called_left : (l : Line) (k : Call) → Left (called l k)
unfolding called
called_left (open_at n e q r) k =
    left_by (eqb n k.number) _ _ (settled_left (r k.a) ((n + 1) % numbering) (e + 1) k.out) (nothing_asked 8 k.out (open_at n e q r))
called_left over k = nothing_asked 7 k.out over

begun_left : (v : Verdict) (p : Plan) (r0 v0 : Triple) → Left (begin_by v p r0 v0)
unfolding begin_by
begun_left (Ok u) p r0 v0 = settled_left (integrate p r0 v0) 0 0 no_room
begun_left (Err e) p r0 v0 = nothing_asked (number_of e) no_room over

-- a line that is open is that of a sound run
open_sound : (run : Run) → is_open (line_of run) ≡ true → is_sound run ≡ true
unfolding line_of is_open
open_sound run = go (is_sound run)
  where
    go : (d : Bool) → is_open (cond d (opened run.mark.count.number run.mark.count.evals (rest run)) over) ≡ true → d ≡ true
    go true h = refl
    go false h = h

-- what is seen of a start and of a call
started_left : (s : Settings) (t0 tf : Float) (r0 v0 : Triple) → Left (begun (started s t0 tf r0 v0))
unfolding begin
started_left s t0 tf r0 v0 = subst Left (sym (begins s t0 tf r0 v0)) (begun_left (verdict_on (plan_of s t0 tf)) (plan_of s t0 tf) r0 v0)

answered_left : (run : Run) (k : Call) → Left (seen (answered run k.number k.a k.out))
answered_left run k = subst Left (sym (call_is run k)) (called_left (line_of run) k)

pub never_seven : NeverSeven
unfolding seen begun told Left
never_seven =
    record {
      after_start = λ s t0 tf r0 v0 q e. open_sound (started s t0 tf r0 v0).run (started_left s t0 tf r0 v0 (ap (λ (o : Outcome). is_asked (told o)) e)).0;
      after_answer = λ run k q e. open_sound (answered run k.number k.a k.out).got.run (answered_left run k (ap (λ (o : Outcome). is_asked (told o)) e)).0;
    }

-- ---- the open question, told again
pub standing_is : (run : Run) → told (open_question run) ≡ standing (line_of run)
unfolding open_question question_of told standing line_of opened rest rest_at
standing_is run = go (is_sound run)
  where
    go : (d : Bool)
        → told (cond d (question_of (waits_at run.mark) run.mark.count run.body) (Refused NoQuestion)) ≡ standing (cond d (opened run.mark.count.number run.mark.count.evals (rest run)) over)
    go true = refl
    go false = refl

other_number : (run : Run) (k : Call) → eqb run.mark.count.number k.number ≡ false → (answered run k.number k.a k.out).got.run ≡ run
unfolding answered refusing
other_number run k h = go (is_sound run) (eqb run.mark.count.number k.number) h
  where
    go : (d e : Bool) → e ≡ false
        → (cond d
        (cond e (answered_at (waits_at run.mark) (next_count run.mark.count) run.body k.a k.out) (quiet (refusing run NotThatQuestion) k.out))
        (quiet (refusing run NoQuestion) k.out)).got.run
        ≡ run
    go true true f = absurd (false≢true (sym f))
    go true false f = refl
    go false e f = refl

pub tells_again : TellsAgain
unfolding seen begun Left
tells_again =
    record {
      after_start = λ s t0 tf r0 v0 n q e. standing_is (started s t0 tf r0 v0).run ∙ (started_left s t0 tf r0 v0 (ap is_asked e)).1 ∙ e;
      after_answer = λ run k n q e. standing_is (answered run k.number k.a k.out).got.run ∙ (answered_left run k (ap is_asked e)).1 ∙ e;
      after_refusal = other_number;
    }
