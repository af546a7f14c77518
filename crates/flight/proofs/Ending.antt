-- Every call with fifty numbers makes an answer or finds the flight over, and a run has fewer than `ample` answers.
use mathlib.Core.Path.{◌≡◌, refl, sym, subst}
use mathlib.Core.Logic.{inl, inr}
use Prim.Native.Nat.{ℕ, ◌+◌, ◌*◌, ◌≤◌, ◌<◌}
use native.Mathlib.Nat.{add-zero}
use native.Mathlib.Omega.{arith}
use mathlib.Core.Bool.{Bool, true, false, cond}
use mathlib.Core.List.{List, [], ◌∷◌}
use lib.ListN.{length}
use lib.Ieee.{Float}
use borrow.Author.Tests.{lt-ltb}
use Rattle.triple.specs.Sampled.{sample_width}
use Rattle.plan.specs.declared.Plan.{Plan}
use Rattle.run.specs.declared.Run.{Run}
use Rattle.run.specs.Limits.{ample}
use Rattle.run.specs.Samples.{has_room}
use Rattle.run.specs.Sound.{is_sound}
use Rattle.run.proofs.Counts.{evals_small}
use Rattle.rules.specs.Walk.{Line, open_at, over}
use Rattle.rules.proofs.Rest.{rest_at, rest, opened, line_of}
use Rattle.counting.specs.Paths.{Claims}
use Rattle.counting.proofs.Rooms.{fifty_numbers}
use Rattle.flight.specs.declared.Flight.{Flight}
use Rattle.flight.specs.Flight.{is_asking, taken_off, beyond, is_ready, flown_on}
use Rattle.flight.specs.Story.{Story, story_of}
use Rattle.flight.specs.Told.{flown_through}
use Rattle.flight.specs.Ends.{Fifty, AlwaysEnds}
use Rattle.flight.proofs.Tales.{Open, Tells, Goes}
use Rattle.flight.proofs.Telling.{turn, piece_goes, call_goes, claims, plan, start_tells, tells_the_story}

-- ---- the answers that a line counts
abbrev evals_in : Line → ℕ
evals_in (open_at n e q k) = e
evals_in over = 0

few_evals : (run : Run) → evals_in (line_of run) < ample
unfolding line_of rest rest_at opened
few_evals run = go (is_sound run) refl
  where
    go : (d : Bool) → is_sound run ≡ d → evals_in (cond d (opened run.mark.count.number run.mark.count.evals (rest run)) over) < ample
    go true e = evals_small run e
    go false e = omega arith

module _ (p : Plan) (c : Claims) where
  few : {m : ℕ} {f : Flight} {st : Story} (o : Open p c m f st) → o.evals < ample
  few {m} {f} o = subst (λ (l : Line). evals_in l < ample) o.line (few_evals f.run)

  ready : (m : ℕ) (f : Flight) (numbers : List Float) (st : Story) → sample_width * 5 ≤ length numbers → Open p c m f st → is_ready (is_asking f) f.next f.next (length numbers) ≡ true
  unfolding is_ready has_room
  ready m f numbers st h o =
      let e = few o in
      let n = o.near in
      rw (o.phase, fifty_numbers f.next numbers h, lt-ltb f.next beyond (omega arith))

  -- one answer more, or over
  call_on : (m : ℕ) (f : Flight) (numbers : List Float) (st : Story) → sample_width * 5 ≤ length numbers → Tells p c m f st → Goes p c (m + 1) f.next f numbers st (flown_on f numbers)
  unfolding flown_on
  call_on m f numbers st h (inl o) = turn p c 4095 (piece_goes p c 4095) m f.next f numbers st (ready m f numbers st h o) o
  call_on m f numbers st h (inr o) = call_goes p c (m + 1) f numbers st (inr o)

  calls_on : (rooms : List (List Float)) (m : ℕ) (f : Flight) (st : Story) → Fifty rooms → Tells p c m f st → (left : Story) × Tells p c (m + length rooms) (flown_through f rooms) left
  unfolding Fifty flown_through
  calls_on [] m f st h t = (st, subst (λ (k : ℕ). Tells p c k f st) (sym (add-zero m)) t)
  calls_on (numbers ∷ rooms) m f st h t =
      let x = call_on m f numbers st h.0 t in
      let y = calls_on rooms (m + 1) (flown_on f numbers).flight x.left h.1 x.tells in
      let e : m + 1 + length rooms ≡ m + length (numbers ∷ rooms) = omega arith in
      (y.0, subst (λ (k : ℕ). Tells p c k (flown_through (flown_on f numbers).flight rooms) y.0) e y.1)

pub always_ends : AlwaysEnds
always_ends s t0 tf r0 v0 rooms h k = record { over = done; told = (tells_the_story s t0 tf r0 v0 rooms).all done }
  where
    p : Plan
    p = plan s t0 tf r0 v0

    c : Claims
    c = claims p

    f : Flight
    f = taken_off s t0 tf r0 v0

    go : {left : Story} → Tells p c (0 + length rooms) (flown_through f rooms) left → is_asking (flown_through f rooms) ≡ false
    go (inl o) = let e = few p c o in let y = o.since in absurd (omega arith)
    go (inr o) = o.asks_none

    done : is_asking (flown_through f rooms) ≡ false
    done = go (calls_on p c rooms 0 f (story_of s t0 tf r0 v0) h (start_tells s t0 tf r0 v0)).1
