-- Piece after piece, call after call: what is handed out is the story.
use Rattle.std.proofs.Common.{Ok, Err}
use mathlib.Core.Path.{◌≡◌, refl, sym, ap, subst, ◌∙◌}
use mathlib.Core.Logic.{◌⊎◌, inl, inr}
use Prim.Native.Nat.{ℕ, zero, suc, ◌+◌, ◌-◌, ◌*◌, ◌≤◌}
use native.Mathlib.Nat.{add-zero}
use native.Mathlib.Omega.{arith}
use mathlib.Core.Bool.{Bool, true, false, false≢true}
use mathlib.Core.List.{List, [], ◌∷◌, ◌++◌, append_assoc, append-nil}
use lib.ListN.{length, length-append}
use lib.Ieee.{Float}
use Rattle.triple.specs.declared.Triple.{Triple}
use Rattle.triple.specs.Sampled.{sample_width}
use Rattle.plan.specs.declared.Settings.{Settings}
use Rattle.plan.specs.declared.Plan.{Plan}
use Rattle.plan.specs.Plan.{plan_of}
use Rattle.plan.specs.Verdict.{Verdict, verdict_on}
use Rattle.run.specs.Samples.{Room, tens, numbers_of, put_all}
use Rattle.run.proofs.Placing.{length_put}
use Rattle.gauss_jackson.specs.Answers.{started}
use Rattle.rules.specs.Rules.{integrate}
use Rattle.rules.specs.Walk.{Stop, no_room, begin_by, begin}
use Rattle.rules.proofs.Follows.{begun, begins}
use Rattle.rules.proofs.Asked.{asks_as_listed}
use Rattle.counting.specs.Paths.{Claims}
use Rattle.counting.specs.Clockwork.{clockwork, fate_of}
use Rattle.counting.proofs.Marching.{by_the_clock}
use Rattle.counting.specs.Rooms.{Holds}
use Rattle.counting.proofs.Ahead.{put_more, reached, samples_ahead}
use Rattle.flight.specs.declared.Flight.{Flight}
use Rattle.flight.specs.Flight.{asks_in, is_asking, ending_of, taken_off, Flown, is_ready, answered_once, flown_by, piece, flown_on}
use Rattle.flight.specs.Story.{Entry, Story, numbered, before, story_by, story_of}
use Rattle.flight.specs.Told.{read_from, handed_out, flown_through, all_handed_out, TellsTheStory}
use Rattle.flight.proofs.Pieces.{flown_stops, ready_is}
use Rattle.flight.proofs.Rows.{told_more}
use Rattle.flight.proofs.Reading.{read_back}
use Rattle.flight.proofs.Settling.{Asked, Ended, settled}
use Rattle.flight.proofs.Tales.{Open, Tells, since_less, arrives, Goes}
use Rattle.flight.proofs.Answering.{once_goes}

module _ (p : Plan) (c : Claims) where
  -- ---- nothing, and one after the other
  none : {m from : ℕ} {f : Flight} {numbers : List Float} {st : Story} → sample_width * (f.next - from) ≤ length numbers → Tells p c m f st
      → Goes p c m from f numbers st (record { flight = f; out = numbers })
  unfolding put_all numbered
  none {m} {from} {f} {numbers} {st} h t = record { samples = []; count = add-zero f.next; put = refl; room = h; left = st; tale = refl; tells = t }

  same_size : {m from : ℕ} {f : Flight} {numbers : List Float} {st : Story} {g : Flown} → Goes p c m from f numbers st g → length g.out ≡ length numbers
  unfolding numbers_of
  same_size {m} {from} {f} {numbers} x = ap (λ (o : Room). length (numbers_of o)) x.put ∙ length_put x.samples f.next from numbers

  then : {k m from : ℕ} {f : Flight} {numbers : List Float} {st : Story} {g h : Flown} (x : Goes p c k from f numbers st g)
      → Goes p c m from g.flight g.out x.left h → Goes p c m from f numbers st h
  then {k} {m} {from} {f} {numbers} {st} {g} {h} x y =
      let l = length-append x.samples y.samples in
      let i = x.count in
      let j = y.count in
      let r = y.room in
      let w = same_size x in
      record {
        samples = x.samples ++ y.samples;
        count = omega arith;
        put = y.put ∙ ap (put_all g.flight.next y.samples) x.put ∙ put_more f.next g.flight.next x.samples y.samples (tens from numbers) x.count;
        room = omega arith;
        left = y.left;
        tale = x.tale ∙ ap (before (numbered f.next x.samples)) y.tale ∙ told_more x.samples y.samples f.next g.flight.next y.left x.count;
        tells = y.tells;
      }

  goes_less : {m k from : ℕ} {f : Flight} {numbers : List Float} {st : Story} {g : Flown} → m ≤ k → Goes p c k from f numbers st g → Goes p c m from f numbers st g
  goes_less h x = record { samples = x.samples; count = x.count; put = x.put; room = x.room; left = x.left; tale = x.tale; tells = since_less p c h x.tells }

  -- ---- a piece
  abbrev pub Piece : (left : ℕ) → Type 0
  Piece left = (m from : ℕ) (f : Flight) (numbers : List Float) (st : Story) → sample_width * (f.next - from) ≤ length numbers → Tells p c m f st → Goes p c m from f numbers st (flown_by left from f numbers)

  pub turn : (left : ℕ) → Piece left → (m from : ℕ) (f : Flight) (numbers : List Float) (st : Story) → is_ready (is_asking f) from f.next (length numbers) ≡ true → Open p c m f st
      → Goes p c (m + 1) from f numbers st (flown_by (suc left) from f numbers)
  unfolding flown_by
  turn left go_on m from f numbers st r o =
      let x = once_goes p c m from f numbers st o (ready_is (is_asking f) from f.next (length numbers) r).1 in
      let g = answered_once from f numbers in
      let w = same_size x in
      let z = x.room in
      rw r (then x (go_on (m + 1) from g.flight g.out x.left (omega arith) x.tells))

  pub piece_goes : (left : ℕ) → Piece left
  unfolding flown_by
  piece_goes zero m from f numbers st h t = none h t
  piece_goes (suc left) m from f numbers st h t = go (piece_goes left) (is_ready (is_asking f) from f.next (length numbers)) refl t
    where
      go : Piece left → (d : Bool) → is_ready (is_asking f) from f.next (length numbers) ≡ d → Tells p c m f st → Goes p c m from f numbers st (flown_by (suc left) from f numbers)
      go on true r (inl o) = goes_less (omega arith) (turn left on m from f numbers st r o)
      go on true r (inr o) = absurd (false≢true (sym o.asks_none ∙ (ready_is (is_asking f) from f.next (length numbers) r).0))
      go on false r t = subst (Goes p c m from f numbers st) (sym (flown_stops from f numbers (suc left) r)) (none h t)

  -- ---- a call, with a room that begins at the next sample
  pub call_goes : (m : ℕ) (f : Flight) (numbers : List Float) (st : Story) → Tells p c m f st → Goes p c m f.next f numbers st (flown_on f numbers)
  unfolding flown_on
  call_goes m f numbers st t = piece_goes piece m f.next f numbers st (omega arith) t

  handed_is : {m : ℕ} {f : Flight} {numbers : List Float} {st : Story} {g : Flown} (x : Goes p c m f.next f numbers st g) → handed_out f g ≡ numbered f.next x.samples
  unfolding handed_out numbers_of
  handed_is {m} {f} {numbers} {st} {g} x =
      let i = x.count in
      let r = x.room in
      let n : g.flight.next - f.next ≡ length x.samples = omega arith in
      ap (λ (k : ℕ). read_from k 0 f.next g.out) n
      ∙ ap (λ (o : Room). read_from (length x.samples) 0 f.next (numbers_of o)) x.put
      ∙ read_back x.samples f.next 0 f.next numbers (omega arith) (omega arith)

  -- ---- call after call
  pub record Through (m : ℕ) (f : Flight) (rooms : List (List Float)) (st : Story) : Type 0 where
    pub left : Story
    pub tale : st ≡ before (all_handed_out f rooms) left
    pub tells : Tells p c m (flown_through f rooms) left

  pub through : (rooms : List (List Float)) (m : ℕ) (f : Flight) (st : Story) → Tells p c m f st → Through m f rooms st
  unfolding flown_through all_handed_out
  through [] m f st t = record { left = st; tale = refl; tells = t }
  through (numbers ∷ rooms) m f st t =
      let x = call_goes m f numbers st t in
      let y = through rooms m (flown_on f numbers).flight x.left x.tells in
      record {
        left = y.left;
        tale = x.tale ∙ ap (λ (r : List Entry). before r x.left) (sym (handed_is x)) ∙ ap (before (handed_out f (flown_on f numbers))) y.tale
            ∙ ap (λ (r : List Entry). record { samples = r; ending = y.left.ending })
            (sym (append_assoc (handed_out f (flown_on f numbers)) (all_handed_out (flown_on f numbers).flight rooms) y.left.samples));
        tells = y.tells;
      }

-- ---- a start
abbrev pub claims : Plan → Claims
claims p = clockwork p (fate_of p)

begins_so : (v : Verdict) (p : Plan) (r0 v0 : Triple) → Asked p (claims p) 0 0 0 (begin_by v p r0 v0) (story_by v p r0 v0) ⊎ Ended p (claims p) (begin_by v p r0 v0) (story_by v p r0 v0)
unfolding begin_by story_by integrate Holds samples_ahead reached
begins_so (Ok u) p r0 v0 = settled p (claims p) (integrate p r0 v0) 0 0 0 no_room (by_the_clock p r0 v0) (asks_as_listed p r0 v0) tt
begins_so (Err e) p r0 v0 = inr (record { said = refl; tale = refl })

module _ (s : Settings) (t0 tf : Float) (r0 v0 : Triple) where
  abbrev pub plan : Plan
  plan = plan_of s t0 tf

  pub start_tells : Tells plan (claims plan) 0 (taken_off s t0 tf r0 v0) (story_of s t0 tf r0 v0)
  unfolding taken_off story_of begun begin
  start_tells =
      let b = begins s t0 tf r0 v0 in
      arrives plan (claims plan) 0 0 0 (started s t0 tf r0 v0) (begin s t0 tf r0 v0) (story_of s t0 tf r0 v0)
      (ap (λ (x : Stop). x.said) b) (ap (λ (x : Stop). x.line) b) (omega arith) (begins_so (verdict_on plan) plan r0 v0)

  pub tells_the_story : (rooms : List (List Float)) → TellsTheStory s t0 tf r0 v0 rooms
  tells_the_story rooms =
      record {
        left = x.left;
        so_far = sym x.tale;
        all = λ (e : is_asking (flown_through f rooms) ≡ false). over e x.tells;
      }
    where
      f : Flight
      f = taken_off s t0 tf r0 v0

      x : Through plan (claims plan) 0 f rooms (story_of s t0 tf r0 v0)
      x = through plan (claims plan) rooms 0 f (story_of s t0 tf r0 v0) start_tells

      over : is_asking (flown_through f rooms) ≡ false → Tells plan (claims plan) 0 (flown_through f rooms) x.left
          → record { samples = all_handed_out f rooms; ending = ending_of (flown_through f rooms) } ≡ story_of s t0 tf r0 v0
      over e (inl o) = absurd (false≢true (sym e ∙ ap asks_in o.phase))
      over e (inr o) =
          sym (x.tale ∙ ap (before (all_handed_out f rooms)) o.tale
          ∙ ap (λ (r : List Entry). record { samples = r; ending = ending_of (flown_through f rooms) }) (append-nil (all_handed_out f rooms)))
