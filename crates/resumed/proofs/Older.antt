-- Older forms: what is told after any events is told to the calls that count.
use mathlib.Core.Path.{◌≡◌, refl, sym, ◌∙◌, ap}
use Prim.Native.Nat.{ℕ, zero, suc}
use mathlib.Core.Bool.{true, cond, false≢true}
use mathlib.Core.List.{List, [], ◌∷◌, ◌++◌, map}
use lib.ListN.{get_or}
use Rattle.rules.specs.Walk.{Call, Result, Line, open_at, over, called, walk, begin}
use Rattle.rules.proofs.Follows.{follows_the_rules}
use Rattle.counting.proofs.Runs.{finishes_on_time}
use Rattle.resumed.specs.Lines.{Event, call, put_away, take_up, CallsDoubles, kept, back_to, followed}
use Rattle.resumed.specs.Older.{line_after, is_open, counting_calls, count_after, OlderForms, DemandThreeWithForms}
use Rattle.resumed.proofs.Lines.{follows_with_forms}

-- ---- lists of calls one after the other
walk_on_lem : (l : Line) (cs ds : List Call) → walk l (cs ++ ds) ≡ walk l cs ++ walk (line_after l cs) ds
unfolding walk line_after
walk_on_lem l [] ds = refl
walk_on_lem l (c ∷ cs) ds = ap (λ (rs : List Result). record { said = (called l c).said; stored = (called l c).stored; out = (called l c).out } ∷ rs) (walk_on_lem (called l c).line cs ds)

after_on : (l : Line) (cs : List Call) (c : Call) → line_after l (cs ++ (c ∷ [])) ≡ (called (line_after l cs) c).line
unfolding line_after
after_on l [] c = refl
after_on l (d ∷ cs) c = after_on (called l d).line cs c

-- calls alone
calls_walk : (l : Line) (places : List Line) (cs : List Call) → followed l places (map call cs) ≡ walk l cs
unfolding followed walk
calls_walk l places [] = refl
calls_walk l places (c ∷ cs) = ap (λ (rs : List Result). record { said = (called l c).said; stored = (called l c).stored; out = (called l c).out } ∷ rs) (calls_walk (called l c).line places cs)

-- ---- the places that are kept are those of the calls that counted
-- at each kept place a question is open
unfoldable Reached : Line → List Line → List (List Call) → Type 0
Reached l [] [] = Unit {0}
Reached l [] (d ∷ ds) = ⊥
Reached l (p ∷ ps) [] = ⊥
Reached l (p ∷ ps) (d ∷ ds) = (p ≡ line_after l d) × (is_open p ≡ true) × Reached l ps ds

reached_on : (l : Line) (ps : List Line) (ds : List (List Call)) (p : Line) (d : List Call) → Reached l ps ds → p ≡ line_after l d → is_open p ≡ true → Reached l (ps ++ (p ∷ [])) (ds ++ (d ∷ []))
unfolding Reached
reached_on l [] [] p d h e o = (e, o, tt)
reached_on l [] (y ∷ ds) p d h e o = absurd h
reached_on l (x ∷ ps) [] p d h e o = absurd h
reached_on l (x ∷ ps) (y ∷ ds) p d h e o = (h.0, h.1, reached_on l ps ds p d h.2 e o)

-- back at place k: the line of the calls that counted there; without such a place, of those that count now
back_is : (l : Line) (ps : List Line) (ds : List (List Call)) (now : List Call) (k : ℕ) → Reached l ps ds → (back_to (get_or ps k over) (line_after l now)).line ≡ line_after l (get_or ds k now)
unfolding Reached back_to is_open
back_is l [] [] now k h = refl
back_is l [] (d ∷ ds) now k h = absurd h
back_is l (p ∷ ps) [] now k h = absurd h
back_is l (p ∷ ps) (d ∷ ds) now zero h = there p h.1 ∙ h.0
  where
    there : (p : Line) → is_open p ≡ true → (back_to p (line_after l now)).line ≡ p
    there (open_at n e q r) o = refl
    there over o = absurd (false≢true o)
back_is l (p ∷ ps) (d ∷ ds) now (suc k) h = back_is l ps ds now k h.2

-- ---- events, then calls
drops : (l : Line) (es : List Event) (cs : List Call) (done : List Call) (ps : List Line) (ds : List (List Call)) → Reached l ps ds
    → followed (line_after l done) ps (es ++ map call cs) ≡ followed (line_after l done) ps es ++ walk (line_after l (counting_calls l done ds es)) cs
unfolding followed counting_calls
drops l [] cs done ps ds h = calls_walk (line_after l done) ps cs
drops l (call c ∷ es) cs done ps ds h =
    ap (λ (rs : List Result). record { said = (called (line_after l done) c).said; stored = (called (line_after l done) c).stored; out = (called (line_after l done) c).out } ∷ rs)
    (ap (λ (x : Line). followed x ps (es ++ map call cs)) (sym (after_on l done c))
    ∙ drops l es cs (done ++ (c ∷ [])) ps ds h
    ∙ ap (λ (x : Line). followed x ps es ++ walk (line_after l (counting_calls l (done ++ (c ∷ [])) ds es)) cs) (after_on l done c))
drops l (put_away ∷ es) cs done ps ds h = put (line_after l done) refl (drops l es cs done)
  where
    put : (x : Line) → x ≡ line_after l done
        → ((ps : List Line) (ds : List (List Call)) → Reached l ps ds → followed (line_after l done) ps (es ++ map call cs) ≡ followed (line_after l done) ps es ++ walk (line_after l (counting_calls l done ds es)) cs)
        → followed (line_after l done) (kept x ps) (es ++ map call cs) ≡ followed (line_after l done) (kept x ps) es ++ walk (line_after l (counting_calls l done (cond (is_open x) (ds ++ (done ∷ [])) ds) es)) cs
    put (open_at n e q k) z on = unfold kept is_open in on (ps ++ (open_at n e q k ∷ [])) (ds ++ (done ∷ [])) (reached_on l ps ds (open_at n e q k) done h z refl)
    put over z on = unfold kept is_open in on ps ds h
drops l (take_up k ∷ es) cs done ps ds h =
    ap (λ (rs : List Result). record { said = (back_to (get_or ps k over) (line_after l done)).said; stored = (back_to (get_or ps k over) (line_after l done)).stored; out = (back_to (get_or ps k over) (line_after l done)).out } ∷ rs)
    (ap (λ (x : Line). followed x ps (es ++ map call cs)) (back_is l ps ds done k h)
    ∙ drops l es cs (get_or ds k done) ps ds h
    ∙ ap (λ (x : Line). followed x ps es ++ walk (line_after l (counting_calls l (get_or ds k done) ds es)) cs) (sym (back_is l ps ds done k h)))

-- the events before are f64 where all are
first_doubles : (es fs : List Event) → CallsDoubles (es ++ fs) → CallsDoubles es
unfolding CallsDoubles
first_doubles [] fs d = tt
first_doubles (call c ∷ es) fs d = (d.0, first_doubles es fs d.1)
first_doubles (put_away ∷ es) fs d = first_doubles es fs d
first_doubles (take_up k ∷ es) fs d = first_doubles es fs d

pub drops_the_answers : OlderForms
unfolding line_after Reached
drops_the_answers s t0 tf r0 v0 es cs o d =
    let l = (begin s t0 tf r0 v0).line in
    record {
      later = walk (line_after l (count_after s t0 tf r0 v0 es)) cs;
      heard =
          follows_with_forms s t0 tf r0 v0 (es ++ map call cs) o d
          ∙ drops l es cs [] [] [] tt
          ∙ ap (λ (rs : List Result). rs ++ walk (line_after l (count_after s t0 tf r0 v0 es)) cs) (sym (follows_with_forms s t0 tf r0 v0 es o (first_doubles es (map call cs) d)));
      ruled = walk_on_lem l (count_after s t0 tf r0 v0 es) cs;
    }

-- demand 3
pub finishes_with_forms : DemandThreeWithForms
finishes_with_forms s t0 tf z0 zf hz r0 v0 es cs b o d room =
    let l = (begin s t0 tf r0 v0).line in
    let x = drops_the_answers s t0 tf r0 v0 es cs o d in
    let count = count_after s t0 tf r0 v0 es in
    record {
      in_time = finishes_on_time b r0 v0 (count ++ cs) room;
      later = x.later;
      heard = x.heard;
      same =
          (follows_the_rules s t0 tf r0 v0 (count ++ cs)).then
          ∙ x.ruled
          ∙ ap (λ (rs : List Result). rs ++ x.later) (sym (follows_the_rules s t0 tf r0 v0 count).then);
    }
