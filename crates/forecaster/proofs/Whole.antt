-- The pieces make the whole.
use mathlib.Core.Path.{◌≡◌, refl, sym, ap, ap₂, ◌∙◌, subst}
use Prim.Native.Nat.{ℕ, zero, suc, ◌-◌, ◌≤◌}
use native.Mathlib.Omega.{arith}
use mathlib.Core.Bool.{Bool, true, false, not, cond, false≢true}
use mathlib.Core.List.{List, [], ◌∷◌, ◌++◌, append_assoc, append-nil}
use lib.ListN.{length, replicate, length-replicate}
use lib.Ieee.{Float}
use Rattle.std.proofs.Common.{Option, None, Some}
use Rattle.triple.specs.declared.Triple.{Triple}
use Rattle.triple.specs.Arithmetic.{nought}
use Rattle.plan.specs.declared.Settings.{Settings}
use Rattle.run.specs.Limits.{ample}
use Rattle.lines.specs.Lines.{sample_line, refusal_line}
use Rattle.lines.specs.Nine.{read_nine}
use Rattle.flight.specs.declared.Phase.{Phase}
use Rattle.flight.specs.declared.Phase.TheVariants.{Asks, Over as Landed}
use Rattle.flight.specs.declared.Flight.{Flight}
use Rattle.flight.specs.Flight.{asks_in, ending_in, is_asking, ending_of, Flown, taken_off, is_ready, flown_on, piece}
use Rattle.flight.specs.Story.{Entry, story_of}
use Rattle.flight.specs.Told.{read_from, handed_out, flown_through, all_handed_out}
use Rattle.flight.specs.Ends.{Fifty}
use Rattle.flight.proofs.Pieces.{flown_stops}
use Rattle.flight.proofs.Telling.{tells_the_story}
use Rattle.flight.proofs.Ending.{always_ends}
use Rattle.forecaster.specs.declared.Forecast.{Forecast}
use Rattle.forecaster.specs.declared.Forecast.TheVariants.{Unread, Flying, Over}
use Rattle.forecaster.specs.Printed.{ten_of, entry_lines, ending_line, story_lines, float_at, triple_at, settings_with, story_for, printed_of, printed}
use Rattle.forecaster.specs.Pieces.{is_over, Piece, blank_room, begun_with, begun_of, begun, carried_on, flown_piece, piece_of}
use Rattle.forecaster.specs.Whole.{forecast_after, printed_after, PrintsAll}
use Rattle.forecaster.proofs.Unread.{over_still, unread_so_far, unread_all, unread_ends}

-- ---- lines one after the other
lines_more : (xs ys : List Entry) → entry_lines (xs ++ ys) ≡ entry_lines xs ++ entry_lines ys
unfolding entry_lines
lines_more [] ys = refl
lines_more (x ∷ xs) ys =
    let line = sample_line x.number (ten_of x.sample) in
    ap (λ (l : List ℕ). line ++ l) (lines_more xs ys) ∙ sym (append_assoc line (entry_lines xs) (entry_lines ys))

abbrev rooms : ℕ → List (List Float)
rooms k = replicate k blank_room

-- ---- a flight that asks nothing stands still and hands out nothing
not_ready : (f : Flight) (from room : ℕ) → is_asking f ≡ false → is_ready (is_asking f) from f.next room ≡ false
unfolding is_ready
not_ready f from room e = rw e

still : (f : Flight) → is_asking f ≡ false → flown_on f blank_room ≡ record { flight = f; out = blank_room }
unfolding flown_on
still f e = flown_stops f.next f blank_room piece (not_ready f f.next (length blank_room) e)

none_told : (f : Flight) → handed_out f (record { flight = f; out = blank_room }) ≡ []
unfolding handed_out read_from
none_told f = let z : f.next - f.next ≡ 0 = omega arith in rw z

still_through : (k : ℕ) (f : Flight) → is_asking f ≡ false → (flown_through f (rooms k) ≡ f) × (all_handed_out f (rooms k) ≡ [])
unfolding flown_through all_handed_out
still_through zero f e = (refl, refl)
still_through (suc k) f e =
    let w = still_through k f e in (
      ap (λ (g : Flown). flown_through g.flight (rooms k)) (still f e) ∙ w.0,
      ap (λ (g : Flown). handed_out f g ++ all_handed_out g.flight (rooms k)) (still f e) ∙ ap (λ (l : List Entry). l ++ all_handed_out f (rooms k)) (none_told f) ∙ w.1,
    )

-- ---- one that flies goes on as its flight does
abbrev after : (d : Bool) → Flight → Flown → Piece
after d f g = record { forecast = cond d (Flying g.flight) (Over (Some g.flight)); bytes = entry_lines (handed_out f g) ++ ending_line (ending_of g.flight) }

flying_piece : (f : Flight) (d : Bool) → is_asking (flown_on f blank_room).flight ≡ d → piece_of (Flying f) ≡ after d f (flown_on f blank_room)
unfolding piece_of flown_piece carried_on
flying_piece f d e = ap (λ (b : Bool). after b f (flown_on f blank_room)) e

over_by : (d : Bool) (f : Flight) → is_over (cond d (Flying f) (Over (Some f))) ≡ not d
over_by true f = refl
over_by false f = refl

over_after : (k : ℕ) (f : Flight) → is_over (forecast_after (suc k) (Flying f)) ≡ not (is_asking (flown_through f (rooms (suc k))))
unfolding forecast_after flown_through
over_after zero f = ap (λ (p : Piece). is_over p.forecast) (flying_piece f _ refl) ∙ over_by (is_asking (flown_on f blank_room).flight) (flown_on f blank_room).flight
over_after (suc k) f = go (is_asking (flown_on f blank_room).flight) refl (over_after k (flown_on f blank_room).flight)
  where
    g : Flight
    g = (flown_on f blank_room).flight

    go : (d : Bool) → is_asking g ≡ d → is_over (forecast_after (suc k) (Flying g)) ≡ not (is_asking (flown_through g (rooms (suc k))))
        → is_over (forecast_after (suc k) (piece_of (Flying f)).forecast) ≡ not (is_asking (flown_through g (rooms (suc k))))
    go true e h = ap (λ (p : Piece). is_over (forecast_after (suc k) p.forecast)) (flying_piece f true e) ∙ h
    go false e h =
        ap (λ (p : Piece). is_over (forecast_after (suc k) p.forecast)) (flying_piece f false e)
        ∙ ap is_over (over_still (suc k) (Some g)).0
        ∙ sym (ap (λ (x : Flight). not (is_asking x)) (still_through (suc k) g e).0 ∙ ap not e)

-- what was printed: the lines of what was handed out, and the ending once it is over
abbrev told : (k : ℕ) → Flight → List ℕ
told k f = entry_lines (all_handed_out f (rooms k)) ++ cond (is_over (forecast_after k (Flying f))) (ending_line (ending_of (flown_through f (rooms k)))) []

no_ending : (h : Phase) → asks_in h ≡ true → ending_line (ending_in h) ≡ []
unfolding ending_line
no_ending (Asks q) e = refl
no_ending (Landed x) e = absurd (false≢true e)

printed_is : (k : ℕ) (f : Flight) → printed_after k (Flying f) ≡ told k f
unfolding printed_after forecast_after flown_through all_handed_out entry_lines
printed_is zero f = refl
printed_is (suc k) f = go (is_asking (flown_on f blank_room).flight) refl (printed_is k (flown_on f blank_room).flight)
  where
    w : Flown
    w = flown_on f blank_room

    g : Flight
    g = w.flight

    here : List Entry
    here = handed_out f w

    go : (d : Bool) → is_asking g ≡ d → printed_after k (Flying g) ≡ told k g
        → (piece_of (Flying f)).bytes ++ printed_after k (piece_of (Flying f)).forecast
        ≡ entry_lines (here ++ all_handed_out g (rooms k)) ++ cond (is_over (forecast_after k (piece_of (Flying f)).forecast)) (ending_line (ending_of (flown_through g (rooms k)))) []
    go true e h =
        let q = flying_piece f true e in
        ap (λ (p : Piece). p.bytes ++ printed_after k p.forecast) q
        ∙ ap₂ (λ (x y : List ℕ). x ++ y) (ap (λ (x : List ℕ). entry_lines here ++ x) (no_ending g.phase e) ∙ append-nil (entry_lines here)) h
        ∙ sym (append_assoc (entry_lines here) (entry_lines (all_handed_out g (rooms k))) _)
        ∙ ap₂ (λ (x : List ℕ) (p : Piece). x ++ cond (is_over (forecast_after k p.forecast)) (ending_line (ending_of (flown_through g (rooms k)))) []) (sym (lines_more here (all_handed_out g (rooms k)))) (sym q)
    go false e h =
        let q = flying_piece f false e in
        let s = still_through k g e in
        let o = over_still k (Some g) in
        ap (λ (p : Piece). p.bytes ++ printed_after k p.forecast) q
        ∙ ap (λ (x : List ℕ). (entry_lines here ++ ending_line (ending_of g)) ++ x) o.1
        ∙ append-nil (entry_lines here ++ ending_line (ending_of g))
        ∙ sym
        (ap₂ (λ (p : Piece) (x : Flight). entry_lines (here ++ all_handed_out g (rooms k)) ++ cond (is_over (forecast_after k p.forecast)) (ending_line (ending_of x)) []) q s.0
        ∙ ap₂ (λ (x : Forecast) (es : List Entry). entry_lines (here ++ es) ++ cond (is_over x) (ending_line (ending_of g)) []) o.0 s.1
        ∙ ap (λ (es : List Entry). entry_lines es ++ ending_line (ending_of g)) (append-nil here))

fifty : (k : ℕ) → Fifty (rooms k)
unfolding Fifty
fifty zero = tt
fifty (suc k) = (omega (arith, length-replicate {A = Float} 640 nought), fifty k)

-- ---- an input that can be read
module _ (s : Settings) (t0 tf : Float) (r0 v0 : Triple) where
  abbrev start : Flight
  start = taken_off s t0 tf r0 v0

  abbrev whole : List ℕ
  whole = story_lines (story_of s t0 tf r0 v0)

  over_lands : (k : ℕ) → is_over (forecast_after k (Flying start)) ≡ true → is_asking (flown_through start (rooms k)) ≡ false
  unfolding forecast_after
  over_lands zero e = absurd (false≢true e)
  over_lands (suc k) e = landed (is_asking (flown_through start (rooms (suc k)))) (sym (over_after k start) ∙ e)
    where
      landed : (d : Bool) → not d ≡ true → d ≡ false
      landed true h = absurd (false≢true h)
      landed false h = refl

  read_all : (k : ℕ) → is_over (forecast_after k (Flying start)) ≡ true → printed_after k (Flying start) ≡ whole
  unfolding story_lines
  read_all k e =
      printed_is k start
      ∙ ap (λ (b : Bool). entry_lines (all_handed_out start (rooms k)) ++ cond b (ending_line (ending_of (flown_through start (rooms k)))) []) e
      ∙ ap story_lines ((tells_the_story s t0 tf r0 v0 (rooms k)).all (over_lands k e))

  going : (k : ℕ) → is_over (forecast_after k (Flying start)) ≡ false → (rest : List ℕ) × (printed_after k (Flying start) ++ rest ≡ whole)
  unfolding story_lines
  going k e =
      let t = tells_the_story s t0 tf r0 v0 (rooms k) in
      let here = all_handed_out start (rooms k) in
      let more = t.left.samples in (
        story_lines t.left,
        ap (λ (x : List ℕ). x ++ story_lines t.left)
            (printed_is k start ∙ ap (λ (b : Bool). entry_lines here ++ cond b (ending_line (ending_of (flown_through start (rooms k)))) []) e ∙ append-nil (entry_lines here))
            ∙ sym (append_assoc (entry_lines here) (entry_lines more) (ending_line t.left.ending))
            ∙ ap (λ (x : List ℕ). x ++ ending_line t.left.ending) (sym (lines_more here more))
            ∙ ap story_lines t.so_far,
      )

  read_so_far : (k : ℕ) → (rest : List ℕ) × (printed_after k (Flying start) ++ rest ≡ whole)
  read_so_far k = go (is_over (forecast_after k (Flying start))) refl
    where
      go : (b : Bool) → is_over (forecast_after k (Flying start)) ≡ b → (rest : List ℕ) × (printed_after k (Flying start) ++ rest ≡ whole)
      go true e = ([], append-nil (printed_after k (Flying start)) ∙ read_all k e)
      go false e = going k e

  read_ends : (k : ℕ) → ample ≤ k → is_over (forecast_after k (Flying start)) ≡ true
  read_ends zero h = absurd (omega arith)
  read_ends (suc k) h = over_after k start ∙ ap not (always_ends s t0 tf r0 v0 (rooms (suc k)) (fifty (suc k)) (omega (arith, length-replicate {A = List Float} (suc k) blank_room))).over

-- ---- every input
pub prints_all : (text : List ℕ) → PrintsAll text
unfolding begun begun_of begun_with printed printed_of story_for
prints_all text = go (read_nine text) refl
  where
    go : (read : Option (List ℕ)) → read_nine text ≡ read → PrintsAll text
    go (Some numbers) e =
        let s = settings_with (float_at numbers 2) in
        let f = taken_off s (float_at numbers 0) (float_at numbers 1) (triple_at numbers 3) (triple_at numbers 6) in
        let b : begun text ≡ Flying f = ap begun_of e in
        let w : printed text ≡ story_lines (story_for numbers) = ap printed_of e in
        record {
          so_far = λ (k : ℕ). subst (λ (x : Forecast). (rest : List ℕ) × (printed_after k x ++ rest ≡ printed text)) (sym b) (rw w (read_so_far s _ _ _ _ k));
          all = λ (k : ℕ). subst (λ (x : Forecast). is_over (forecast_after k x) ≡ true → printed_after k x ≡ printed text) (sym b) (rw w (read_all s _ _ _ _ k));
          ends = λ (k : ℕ) (h : ample ≤ k). subst (λ (x : Forecast). is_over (forecast_after k x) ≡ true) (sym b) (read_ends s _ _ _ _ k h);
        }
    go None e =
        let b : begun text ≡ Unread = ap begun_of e in
        let w : printed text ≡ refusal_line 19 = ap printed_of e in
        record {
          so_far = λ (k : ℕ). subst (λ (x : Forecast). (rest : List ℕ) × (printed_after k x ++ rest ≡ printed text)) (sym b) (rw w (unread_so_far k));
          all = λ (k : ℕ). subst (λ (x : Forecast). is_over (forecast_after k x) ≡ true → printed_after k x ≡ printed text) (sym b) (rw w (unread_all k));
          ends = λ (k : ℕ) (h : ample ≤ k). subst (λ (x : Forecast). is_over (forecast_after k x) ≡ true) (sym b) (unread_ends k h);
        }
