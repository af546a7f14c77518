-- What a call gave and printed is a piece of its flight.
use mathlib.Core.Path.{◌≡◌, ap, ap₂, ◌∙◌}
use Prim.Native.Nat.{ℕ, ◌-◌}
use mathlib.Core.List.{List, ◌++◌}
use lib.ListN.{length}
use lib.Ieee.{Float}
use Rattle.lines.specs.Put.{over}
use Rattle.flight.specs.declared.Flight.{Flight}
use Rattle.flight.specs.Flight.{ending_of, flown_on}
use Rattle.flight.specs.Told.{read_from, handed_out}
use Rattle.forecaster.specs.declared.Forecast.{Forecast}
use Rattle.forecaster.specs.Printed.{entry_lines, ending_line}
use Rattle.forecaster.specs.Pieces.{Piece, blank_room, carried_on, flown_piece}

module _ (f g : Flight) (numbers : List Float) (before : List ℕ) where
  abbrev bytes : Flight → List Float → List ℕ
  bytes h l = entry_lines (read_from (h.next - f.next) 0 f.next l) ++ ending_line (ending_of h)

  abbrev given : Flight → List Float → Piece
  given h l = record { forecast = carried_on h; bytes = bytes h l }

  abbrev piece : Piece
  piece = flown_piece f (flown_on f blank_room)

  piece_is : g ≡ (flown_on f blank_room).flight → numbers ≡ (flown_on f blank_room).out → given g numbers ≡ piece
  unfolding flown_piece handed_out
  piece_is d e = ap₂ given d e

  pub told_piece : (x : Forecast) (count : ℕ) (after : List ℕ) → g ≡ (flown_on f blank_room).flight → numbers ≡ (flown_on f blank_room).out
      → x ≡ carried_on g → count ≡ length (bytes g numbers) → after ≡ over 0 (bytes g numbers) before
      → (x ≡ piece.forecast) × (count ≡ length piece.bytes) × (after ≡ over 0 piece.bytes before)
  told_piece x count after d e u v w =
      let z = piece_is d e in
      (u ∙ ap (λ (p : Piece). p.forecast) z, v ∙ ap (λ (p : Piece). length p.bytes) z, w ∙ ap (λ (p : Piece). over 0 p.bytes before) z)
