-- A line of calls with storings and loadings follows the rules.
use mathlib.Core.Path.{◌≡◌, refl, sym, ◌∙◌, ap, ap₂}
use Prim.Native.Nat.{ℕ, zero, suc}
use mathlib.Core.Bool.{Bool, true, false, cond}
use mathlib.Core.List.{List, [], ◌∷◌, ◌++◌}
use lib.ListN.{length, get_or, length-replicate}
use Rattle.refusals.specs.Numbers.{number_of}
use Rattle.refusals.specs.declared.Refusal.TheVariants.{StoredShape}
use Rattle.run.specs.declared.Run.{Run}
use Rattle.run.specs.Waiting.{waits_at}
use Rattle.run.specs.Questions.{question_at}
use Rattle.run.specs.Sound.{is_sound}
use Rattle.gauss_jackson.specs.declared.Answered.{Answered}
use Rattle.gauss_jackson.specs.Answers.{answered, started, refusing}
use Rattle.rules.specs.Rules.{Course}
use Rattle.run.specs.Samples.{Room}
use Rattle.rules.specs.Walk.{Said, refused, told, Call, Result, Stop, Line, open_at, over, no_room}
use Rattle.rules.specs.Follows.{heard}
use Rattle.rules.proofs.Rest.{next, rest_at, rest, opened, line_of, seen}
use Rattle.rules.proofs.Calls.{call_is}
use Rattle.rules.proofs.Follows.{begun, begins}
use Rattle.rules.proofs.Open.{standing, standing_is}
use Rattle.blocks.specs.Blocks.{is_whole}
use Rattle.stored.specs.Stored.{storing, stored_in, taken_up, loaded}
use Rattle.stored.specs.Trips.{cleaned}
use Rattle.stored.proofs.Cleaned.{sound_same, stored_is_loaded}
use Rattle.triple.specs.Doubles.{Doubles}
use Rattle.resumed.specs.Lines.{Event, call, put_away, take_up, blank, added_by, added, load_heard, played, kept, back_to, followed, CallsDoubles, FollowsWithForms}
use Rattle.resumed.proofs.Going.{GoodRun, answered_good, started_good}
use Rattle.resumed.proofs.Machine.{machine, clean_good}
use Rattle.resumed.proofs.Same.{rest_same}

-- ---- the run that is taken up stands where the run stood that was put away
line_same : (run : Run) → is_sound run ≡ true → GoodRun run → line_of (cleaned run) ≡ line_of run
unfolding line_of cleaned
line_same run t g =
    rw (sound_same run) (ap (λ (c : Course). cond (is_sound run) (opened run.mark.count.number run.mark.count.evals c) over) (rest_same run t (machine run g)))

-- a sound run stands at its question
open_line : (run : Run) → is_sound run ≡ true
    → line_of run ≡ open_at run.mark.count.number run.mark.count.evals (question_at (waits_at run.mark) run.body) (next (waits_at run.mark) run.body)
unfolding line_of rest rest_at opened
open_line run t = rw t

closed_line : (run : Run) → is_sound run ≡ false → line_of run ≡ over
unfolding line_of
closed_line run t = rw t

-- ---- a form, and the place of the line that it keeps
pub record Keeps (form : List ℕ) (place : Line) : Type 0 where
  pub run : Run
  pub sound : is_sound run ≡ true
  pub good : GoodRun run
  pub form_is : form ≡ stored_in run blank
  pub place_is : place ≡ line_of run

unfoldable Kept : List (List ℕ) → List Line → Type 0
Kept [] [] = Unit {0}
Kept [] (l ∷ ls) = ⊥
Kept (f ∷ fs) [] = ⊥
Kept (f ∷ fs) (l ∷ ls) = Keeps f l × Kept fs ls

kept_on : (fs : List (List ℕ)) (ls : List Line) (f : List ℕ) (l : Line) → Kept fs ls → Keeps f l → Kept (fs ++ (f ∷ [])) (ls ++ (l ∷ []))
unfolding Kept
kept_on [] [] f l h k = (k, tt)
kept_on [] (x ∷ ls) f l h k = absurd h
kept_on (y ∷ fs) [] f l h k = absurd h
kept_on (y ∷ fs) (x ∷ ls) f l h k = (h.0, kept_on fs ls f l h.1 k)

-- form k and place k: both are there, or neither
data Found (f : List ℕ) (l : Line) : Type 0 where
  none : f ≡ [] → l ≡ over → Found f l
  some : Keeps f l → Found f l

found : (fs : List (List ℕ)) (ls : List Line) → Kept fs ls → (k : ℕ) → Found (get_or fs k []) (get_or ls k over)
unfolding Kept
found [] [] h k = none refl refl
found [] (l ∷ ls) h k = absurd h
found (f ∷ fs) [] h k = absurd h
found (f ∷ fs) (l ∷ ls) h zero = some h.0
found (f ∷ fs) (l ∷ ls) h (suc k) = found fs ls h.1 k

-- ---- putting away
blank_size : length blank ≡ 2048
blank_size = length-replicate {A = ℕ} 2048 0

added_sound : (run : Run) (forms : List (List ℕ)) → is_sound run ≡ true → added run forms ≡ forms ++ (stored_in run blank ∷ [])
unfolding added added_by storing
added_sound run forms t = rw t

added_closed : (run : Run) (forms : List (List ℕ)) → is_sound run ≡ false → added run forms ≡ forms
unfolding added added_by storing
added_closed run forms t = rw t

-- ---- taking up
no_form : (held : Run) → loaded held [] ≡ refusing held StoredShape
unfolding loaded is_whole
no_form held = refl

back : (held run : Run) → is_sound run ≡ true → GoodRun run → loaded held (stored_in run blank) ≡ taken_up (cleaned run)
back held run t g = stored_is_loaded held run blank t (machine run g).floats blank_size

-- the question is told again
again : (run : Run) (l : Line) → is_sound run ≡ true → GoodRun run → told (taken_up (cleaned run)).outcome ≡ (back_to (line_of run) l).said
unfolding taken_up back_to standing
again run l t g = standing_is (cleaned run) ∙ ap standing (line_same run t g) ∙ (rw (open_line run t))

stands : (run : Run) (l : Line) → is_sound run ≡ true → (back_to (line_of run) l).line ≡ line_of run
unfolding back_to
stands run l t = rw (open_line run t)

silent : (run : Run) (l : Line) → is_sound run ≡ true → ((back_to (line_of run) l).stored ≡ 0) × ((back_to (line_of run) l).out ≡ no_room)
unfolding back_to
silent run l t = rw (open_line run t) (refl, refl)

-- ---- from any run at all, with any forms
abbrev Follows : List Event → Type 0
Follows es = (run : Run) (forms : List (List ℕ)) (places : List Line) → GoodRun run → Kept forms places → played run forms es ≡ followed (line_of run) places es

by_call : (c : Call) (es : List Event) → Doubles c.a → Follows es → Follows (call c ∷ es)
unfolding played followed seen
by_call c es d on run forms places g h =
    ap (λ (l : List Result). heard (answered run c.number c.a c.out) ∷ l)
    (on (answered run c.number c.a c.out).got.run forms places (answered_good run c.number c.a c.out g d).got.body h)
    ∙ ap (λ (s : Stop). record { said = s.said; stored = s.stored; out = s.out } ∷ followed s.line places es) (call_is run c)

by_putting : (es : List Event) → Follows es → Follows (put_away ∷ es)
unfolding played followed kept
by_putting es on run forms places g h = go (is_sound run) refl
  where
    form : List ℕ
    form = stored_in run blank

    go : (b : Bool) → is_sound run ≡ b → played run (added run forms) es ≡ followed (line_of run) (kept (line_of run) places) es
    go true t =
        let p : places ++ (line_of run ∷ []) ≡ kept (line_of run) places = rw (open_line run t) in
        ap (λ (f : List (List ℕ)). played run f es) (added_sound run forms t)
        ∙ on run (forms ++ (form ∷ [])) (places ++ (line_of run ∷ [])) g (kept_on forms places form (line_of run) h (record { run = run; sound = t; good = g; form_is = refl; place_is = refl }))
        ∙ ap (λ (p : List Line). followed (line_of run) p es) p
    go false t =
        let p : places ≡ kept (line_of run) places = rw (closed_line run t) in
        ap (λ (f : List (List ℕ)). played run f es) (added_closed run forms t) ∙ on run forms places g h ∙ ap (λ (p : List Line). followed (line_of run) p es) p

-- a loading and what follows
abbrev loading : Answered → List (List ℕ) → List Event → List Result
loading x forms es = load_heard x ∷ played x.run forms es

abbrev standing_at : Stop → List Line → List Event → List Result
standing_at x places es = record { said = x.said; stored = x.stored; out = x.out } ∷ followed x.line places es

-- where there is no such form: 10, and the run goes on as it was
by_missing : (es : List Event) → Follows es → (run : Run) (forms : List (List ℕ)) (places : List Line) → GoodRun run → Kept forms places
    → loading (refusing run StoredShape) forms es ≡ standing_at (back_to over (line_of run)) places es
unfolding refusing told back_to
by_missing es on run forms places g h = ap (λ (l : List Result). record { said = refused (number_of StoredShape); stored = 0; out = no_room } ∷ l) (on run forms places g h)

-- where there is one: its question again, and on from its place
by_form : (es : List Event) → Follows es → (run : Run) (l : Line) (forms : List (List ℕ)) (places : List Line) → is_sound run ≡ true → GoodRun run → Kept forms places
    → loading (taken_up (cleaned run)) forms es ≡ standing_at (back_to (line_of run) l) places es
unfolding taken_up
by_form es on run l forms places t g h =
    let x = back_to (line_of run) l in
    let line : line_of (cleaned run) ≡ x.line = line_same run t g ∙ sym (stands run l t) in
    ap₂ (λ (s : Said) (rs : List Result). record { said = s; stored = 0; out = no_room } ∷ rs) (again run l t g) (on (cleaned run) forms places (clean_good run g) h ∙ ap (λ (y : Line). followed y places es) line)
    ∙ ap₂ (λ (m : ℕ) (o : Room). record { said = x.said; stored = m; out = o } ∷ followed x.line places es) (sym (silent run l t).0) (sym (silent run l t).1)

by_taking : (k : ℕ) (es : List Event) → Follows es → Follows (take_up k ∷ es)
unfolding played followed
by_taking k es on run forms places g h = go (found forms places h k)
  where
    go : Found (get_or forms k []) (get_or places k over) → loading (loaded run (get_or forms k [])) forms es ≡ standing_at (back_to (get_or places k over) (line_of run)) places es
    go (none e f) =
        ap (λ (x : List ℕ). loading (loaded run x) forms es) e
        ∙ ap (λ (x : Answered). loading x forms es) (no_form run)
        ∙ by_missing es on run forms places g h
        ∙ ap (λ (l : Line). standing_at (back_to l (line_of run)) places es) (sym f)
    go (some x) =
        ap (λ (y : List ℕ). loading (loaded run y) forms es) x.form_is
        ∙ ap (λ (y : Answered). loading y forms es) (back run x.run x.sound x.good)
        ∙ by_form es on x.run (line_of run) forms places x.sound x.good h
        ∙ ap (λ (l : Line). standing_at (back_to l (line_of run)) places es) (sym x.place_is)

follows : (es : List Event) → CallsDoubles es → Follows es
unfolding played followed CallsDoubles
follows [] d = λ (run : Run) (forms : List (List ℕ)) (places : List Line) (g : GoodRun run) (h : Kept forms places). refl
follows (call c ∷ es) d = by_call c es d.0 (follows es d.1)
follows (put_away ∷ es) d = by_putting es (follows es d)
follows (take_up k ∷ es) d = by_taking k es (follows es d)

pub follows_with_forms : FollowsWithForms
unfolding begun Kept
follows_with_forms s t0 tf r0 v0 es o d =
    follows es d (started s t0 tf r0 v0).run [] []
    (started_good s t0 tf r0 v0 o.step o.corrector o.startup o.start o.end o.position o.velocity).body tt
    ∙ ap (λ (x : Stop). followed x.line [] es) (begins s t0 tf r0 v0)
