-- W-201: "Demands 2 and 3 then speak of one line of answers from the start, storings and loadings included. Taking up an older form drops the
-- answers accepted since: they no longer count and are asked again."
-- The proof is `follows_with_forms` in proofs/Lines.antt.
use Rattle.std.specs.Prelude.{◌≡◌, ℕ, List, [], ◌∷◌, ◌++◌, get_or, replicate, Float, ⊤, Ok, Err}
use Rattle.std.specs.Prelude.{Result as OkOrErr}
use Rattle.triple.specs.declared.Triple.{Triple}
use Rattle.refusals.specs.Numbers.{number_of}
use Rattle.refusals.specs.declared.Refusal.{Refusal}
use Rattle.refusals.specs.declared.Refusal.TheVariants.{StoredShape}
use Rattle.plan.specs.declared.Settings.{Settings}
use Rattle.run.specs.declared.Run.{Run}
use Rattle.gauss_jackson.specs.declared.Answered.{Answered}
use Rattle.gauss_jackson.specs.Answers.{answered, started}
use Rattle.rules.specs.Walk.{question, refused, told, Call, Result, Line, open_at, over, Stop, no_room, called, begin}
use Rattle.rules.specs.Follows.{heard}
use Rattle.stored.specs.Stored.{storing, stored_in, loaded}
use Rattle.triple.specs.Doubles.{Doubles}
use Rattle.resumed.specs.Outside.{Outside}

-- what befalls a run: a call of `answer`; the run is put away as a further form; form k, counted from 0, is taken up
pub data Event : Type 0 where
  call : Call → Event
  put_away : Event
  take_up : ℕ → Event

-- ---- the functions: each event on the run and the forms that the one before left
-- a buffer for a form
abbrev pub blank : List ℕ
blank = replicate 2048 0

-- where `store` refuses there is no further form
unfoldable pub added_by : OkOrErr ⊤ Refusal → (form : List ℕ) → (forms : List (List ℕ)) → List (List ℕ)
added_by (Ok u) form forms = forms ++ (form ∷ [])
added_by (Err e) form forms = forms

unfoldable pub added : Run → List (List ℕ) → List (List ℕ)
added run forms = added_by (storing run blank) (stored_in run blank) forms

-- what the caller has of a loading
abbrev pub load_heard : Answered → Result
load_heard x = record { said = told x.outcome; stored = x.stored; out = no_room }

-- what the calls and the loadings have to tell
unfoldable pub played : Run → (forms : List (List ℕ)) → List Event → List Result
played run forms [] = []
played run forms (call c ∷ es) =
    heard (answered run c.number c.a c.out) ∷ played (answered run c.number c.a c.out).got.run forms es
played run forms (put_away ∷ es) = played run (added run forms) es
played run forms (take_up k ∷ es) = load_heard (loaded run (get_or forms k [])) ∷ played (loaded run (get_or forms k [])).run forms es

-- ---- the rules: each event on the line and the places of lines that were kept
-- where no question is open there is nothing to keep
unfoldable pub kept : Line → List Line → List Line
kept (open_at n e q k) ls = ls ++ (open_at n e q k ∷ [])
kept over ls = ls

-- back to the place that was kept: its question is told again, and the count of answers is what it was there
unfoldable pub back_to : (kept line : Line) → Stop
back_to (open_at n e q k) line = record { said = question n q; stored = 0; out = no_room; line = open_at n e q k }
back_to over line = record { said = refused (number_of StoredShape); stored = 0; out = no_room; line = line }

unfoldable pub followed : Line → (places : List Line) → List Event → List Result
followed l places [] = []
followed l places (call c ∷ es) = record { said = (called l c).said; stored = (called l c).stored; out = (called l c).out } ∷ followed (called l c).line places es
followed l places (put_away ∷ es) = followed l (kept l places) es
followed l places (take_up k ∷ es) =
    let x = back_to (get_or places k over) l in record { said = x.said; stored = x.stored; out = x.out } ∷ followed x.line places es

-- ---- the statement
-- the accelerations of the calls are f64
unfoldable pub CallsDoubles : List Event → Type 0
CallsDoubles [] = Unit {0}
CallsDoubles (call c ∷ es) = Doubles c.a × CallsDoubles es
CallsDoubles (put_away ∷ es) = CallsDoubles es
CallsDoubles (take_up k ∷ es) = CallsDoubles es

-- for every start and every list of events: what is told, and left in the rooms, is what the rules give
abbrev pub FollowsWithForms : Type 0
FollowsWithForms =
    (s : Settings) (t0 tf : Float) (r0 v0 : Triple) (es : List Event) → Outside s t0 tf r0 v0 → CallsDoubles es
    → played (started s t0 tf r0 v0).run [] es ≡ followed (begin s t0 tf r0 v0).line [] es
