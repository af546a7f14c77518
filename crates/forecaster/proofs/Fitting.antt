-- What a piece tells fits: the next number never goes back, it stays within the room, and the room keeps its length. For any flight at all.
use mathlib.Core.Path.{◌≡◌, refl, ap, ◌∙◌}
use Prim.Native.Nat.{ℕ, zero, suc, ◌+◌, ◌-◌, ◌*◌, ◌^◌, ◌≤◌, ◌<◌}
use native.Mathlib.Omega.{arith}
use mathlib.Core.Bool.{Bool, true, false, cond}
use mathlib.Core.List.{List}
use lib.Dec.{ltb}
use lib.ListN.{length}
use lib.Ieee.{Float}
use Rattle.std.specs.Prelude.{Option, Some, None}
use Rattle.triple.specs.declared.Triple.{Triple}
use borrow.Author.Tests.{ltb-true, ltb-false}
use Rattle.run.specs.Samples.{Room, tens, numbers_of}
use Rattle.run.proofs.Placing.{placed_is, length_put}
use Rattle.gauss_jackson.specs.declared.Question.{Question}
use Rattle.gauss_jackson.proofs.Stores.{stored_is_written}
use Rattle.point_mass.specs.Force.{answer_at}
use Rattle.flight.specs.declared.Flight.{Flight}
use Rattle.flight.specs.declared.Phase.{Phase}
use Rattle.flight.specs.declared.Phase.TheVariants.{Asks, Over}
use Rattle.flight.specs.Flight.{is_asking, Flown, flight_of, flown_after, landed_low, answered_by, pulled_by, answered_in, answered_once, beyond, is_ready, flown_by, piece, flown_on}
use Rattle.flight.proofs.Stored.{stored_few}
use Rattle.flight.proofs.Pieces.{ready_is}

-- by one answer
record Once (f : Flight) (numbers : List Float) (g : Flown) : Type 0 where
  forth : f.next ≤ g.flight.next
  few : g.flight.next ≤ f.next + 5
  same : length g.out ≡ length numbers

once_pulled : (q : Question) (x : Option Triple) (from : ℕ) (f : Flight) (numbers : List Float) → Once f numbers (pulled_by q x from f numbers)
unfolding pulled_by landed_low answered_by flown_after flight_of
once_pulled q None from f numbers = record { forth = omega arith; few = omega arith; same = refl }
once_pulled q (Some a) from f numbers =
    let w = stored_is_written f.run q.number a (tens from numbers) in
    let s = stored_few f.run q.number a (tens from numbers) in
    record {
      forth = omega arith;
      few = omega arith;
      same = ap (λ (r : Room). length (numbers_of r)) w.written ∙ length_put w.samples w.first from numbers;
    }

once_in : (h : Phase) (from : ℕ) (f : Flight) (numbers : List Float) → Once f numbers (answered_in h from f numbers)
unfolding answered_in
once_in (Asks q) from f numbers = once_pulled q (answer_at q.r) from f numbers
once_in (Over e) from f numbers = record { forth = omega arith; few = omega arith; same = refl }

once : (from : ℕ) (f : Flight) (numbers : List Float) → Once f numbers (answered_once from f numbers)
unfolding answered_once
once from f numbers = once_in f.phase from f numbers

-- by a piece
pub record StaysWithin (from : ℕ) (f : Flight) (numbers : List Float) (g : Flown) : Type 0 where
  pub forth : f.next ≤ g.flight.next
  pub placed : 10 * (g.flight.next - from) ≤ length numbers
  pub near : f.next < g.flight.next → g.flight.next ≤ beyond + 5
  pub same : length g.out ≡ length numbers

abbrev Goes : ℕ → Type 0
Goes left = (from : ℕ) (f : Flight) (numbers : List Float) → from ≤ f.next → 10 * (f.next - from) ≤ length numbers → StaysWithin from f numbers (flown_by left from f numbers)

nearer : (m n : ℕ) → m ≤ beyond + 5 → m ≤ n → (m < n → n ≤ beyond + 5) → n ≤ beyond + 5
nearer m n h k f = go (ltb m n) refl
  where
    go : (d : Bool) → ltb m n ≡ d → n ≤ beyond + 5
    go true e = f (ltb-true m n e)
    go false e = let z : n ≤ m = ltb-false m n e in omega arith

one_more : (left : ℕ) → Goes left → (from : ℕ) (f : Flight) (numbers : List Float) → is_ready (is_asking f) from f.next (length numbers) ≡ true
    → StaysWithin from f numbers (flown_by left from (answered_once from f numbers).flight (answered_once from f numbers).out)
one_more left rest from f numbers e =
    let r = ready_is (is_asking f) from f.next (length numbers) e in
    let p = placed_is from f.next 5 (length numbers) r.1 in
    let one = once from f numbers in
    let a = one.forth in
    let b = one.few in
    let c = one.same in
    let h = p.0 in
    let k = p.1 in
    let n = r.2 in
    let w = rest from (answered_once from f numbers).flight (answered_once from f numbers).out (omega arith) (omega arith) in
    let u = w.forth in
    let v = w.placed in
    record {
      forth = omega arith;
      placed = omega arith;
      near = λ z. nearer (answered_once from f numbers).flight.next (flown_by left from (answered_once from f numbers).flight (answered_once from f numbers).out).flight.next (omega arith) u w.near;
      same = w.same ∙ c;
    }

within : (left : ℕ) → Goes left
unfolding flown_by
within zero from f numbers h k = record { forth = omega arith; placed = k; near = λ z. omega arith; same = refl }
within (suc left) from f numbers h k = go (is_ready (is_asking f) from f.next (length numbers)) refl (one_more left (within left) from f numbers)
  where
    on : Flown
    on = flown_by left from (answered_once from f numbers).flight (answered_once from f numbers).out

    go : (d : Bool) → is_ready (is_asking f) from f.next (length numbers) ≡ d → (is_ready (is_asking f) from f.next (length numbers) ≡ true → StaysWithin from f numbers on)
        → StaysWithin from f numbers (cond d on (record { flight = f; out = numbers }))
    go true e w = w e
    go false e w = record { forth = omega arith; placed = k; near = λ z. omega arith; same = refl }

piece_fits : (f : Flight) (numbers : List Float) → StaysWithin f.next f numbers (flown_on f numbers)
unfolding flown_on
piece_fits f numbers = within piece f.next f numbers (omega arith) (omega arith)

-- ---- of what a call gave: the next number is no less, and the samples between fit into a room of so many
module _ (f g : Flight) (numbers out : List Float) (flown : g ≡ (flown_on f numbers).flight) where
  abbrev next_told : g.next ≡ (flown_on f numbers).flight.next
  next_told = ap (λ (x : Flight). x.next) flown

  pub told_forth : f.next ≤ g.next
  told_forth = omega (arith, next_told, (piece_fits f numbers).forth)

  pub told_fits : (out ≡ (flown_on f numbers).out) → length numbers ≡ 640
      → (0 < g.next - f.next → f.next + (g.next - f.next) < 2 ^ 64) × (g.next - f.next ≤ 64) × (10 * (g.next - f.next) ≤ length out)
  told_fits left size =
      let w = piece_fits f numbers in
      let a = w.forth in
      let b = w.placed in
      let n = next_told in
      let k = ap (λ (l : List Float). length l) left ∙ w.same in
      ((λ some. let z = w.near (omega arith) in omega arith), omega arith, omega arith)
