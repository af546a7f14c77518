-- One turn of a piece, and where it stops.
use mathlib.Core.Path.{◌≡◌, refl}
use Prim.Native.Nat.{ℕ, zero, suc, ◌<◌}
use mathlib.Core.Bool.{Bool, true, false, ◌&&◌}
use mathlib.Core.List.{List}
use lib.Dec.{ltb}
use lib.ListN.{length}
use lib.Ieee.{Float}
use Rattle.std.specs.Prelude.{Result}
use Rattle.refusals.specs.declared.Refusal.{Refusal}
use borrow.Author.Tests.{ltb-true}
use Rattle.run.specs.Samples.{is_placed}
use Rattle.run.proofs.Counts.{both}
use Rattle.flight.specs.declared.Phase.TheVariants.{Over}
use Rattle.flight.specs.declared.Flight.{Flight}
use Rattle.flight.specs.Flight.{is_asking, beyond, is_ready, answered_once, flown_by}

module _ (from : ℕ) (f : Flight) (numbers : List Float) where
  abbrev ready : Type 0
  ready = is_ready (is_asking f) from f.next (length numbers) ≡ true

  pub flown_more : (left next : ℕ) → left ≡ suc next → ready → flown_by left from f numbers ≡ flown_by next from (answered_once from f numbers).flight (answered_once from f numbers).out
  unfolding flown_by
  flown_more left next e r = rw (e, r)

  pub flown_stops : (left : ℕ) → is_ready (is_asking f) from f.next (length numbers) ≡ false → flown_by left from f numbers ≡ record { flight = f; out = numbers }
  unfolding flown_by
  flown_stops zero r = refl
  flown_stops (suc left) r = rw r (refl)

  pub flown_none : (left : ℕ) → left ≡ 0 → flown_by left from f numbers ≡ record { flight = f; out = numbers }
  unfolding flown_by
  flown_none left e = rw e

  -- where none is open
  pub flown_over : (left : ℕ) (e : Result Unit Refusal) → f.phase ≡ Over e → flown_by left from f numbers ≡ record { flight = f; out = numbers }
  unfolding is_ready
  flown_over left e h = flown_stops left (rw h)

-- where a piece goes on
pub ready_is : (on : Bool) (from next room : ℕ) → is_ready on from next room ≡ true → (on ≡ true) × (is_placed from next 5 room ≡ true) × (next < beyond)
unfolding is_ready
ready_is on from next room h =
    let b = both (on && is_placed from next 5 room) (ltb next beyond) h in
    let d = both on (is_placed from next 5 room) b.0 in
    (d.0, d.1, ltb-true next beyond b.1)
