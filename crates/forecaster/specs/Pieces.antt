-- The same in pieces: what each call of `print_on` prints, and what is left. `begun` and `piece_of` are what the contracts of `begin` and `print_on`
-- cite; that the pieces are all that is printed is said in Whole.
use Rattle.std.specs.Prelude.{ℕ, ◌*◌, ◌+◌, Bool, true, false, cond, List, [], ◌++◌, leb, replicate, Float, Option, None, Some}
use Rattle.triple.specs.Arithmetic.{nought}
use Rattle.refusals.specs.Numbers.{number_of}
use Rattle.refusals.specs.declared.Refusal.TheVariants.{InputLine}
use Rattle.lines.specs.Lines.{refusal_line}
use Rattle.lines.specs.Nine.{read_nine}
use Rattle.flight.specs.declared.Flight.{Flight}
use Rattle.flight.specs.Flight.{is_asking, ending_of, Flown, taken_off, flown_on}
use Rattle.flight.specs.Told.{handed_out}
use Rattle.forecaster.specs.declared.Forecast.{Forecast}
use Rattle.forecaster.specs.declared.Forecast.TheVariants.{Unread, Flying, Over}
use Rattle.forecaster.specs.Printed.{entry_lines, ending_line, float_at, triple_at, settings_with}

abbrev pub is_over : Forecast → Bool
is_over Unread = false
is_over (Flying f) = false
is_over (Over f) = true

unfoldable pub begun_with : List ℕ → Forecast
begun_with numbers =
    Flying (taken_off (settings_with (float_at numbers 2)) (float_at numbers 0) (float_at numbers 1) (triple_at numbers 3) (triple_at numbers 6))

-- of the nine numbers that were read, if they were
unfoldable pub begun_of : Option (List ℕ) → Forecast
begun_of None = Unread
begun_of (Some numbers) = begun_with numbers

unfoldable pub begun : List ℕ → Forecast
begun text = begun_of (read_nine text)

-- ---- a piece
pub record Piece : Type 0 where
  pub forecast : Forecast
  pub bytes : List ℕ

-- a room for so many samples, blank before each piece
abbrev pub samples_apiece : ℕ
samples_apiece = 64

abbrev pub blank_room : List Float
blank_room = replicate (10 * samples_apiece) nought

-- what a flight tells after a piece: the samples handed out, and the ending if it is over; the flight stays to be looked at
unfoldable pub carried_on : Flight → Forecast
carried_on f = cond (is_asking f) (Flying f) (Over (Some f))

unfoldable pub flown_piece : Flight → Flown → Piece
flown_piece f g = record { forecast = carried_on g.flight; bytes = entry_lines (handed_out f g) ++ ending_line (ending_of g.flight) }

-- "a missing, extra or misshapen input line prints 19": that, and it is over
unfoldable pub unread_piece : Piece
unread_piece = record { forecast = Over None; bytes = refusal_line (number_of InputLine) }

unfoldable pub piece_of : Forecast → Piece
piece_of Unread = unread_piece
piece_of (Flying f) = flown_piece f (flown_on f blank_room)
piece_of (Over f) = record { forecast = Over f; bytes = [] }

-- the room for the longest piece: a line takes 191 bytes at most, and a refusal's 21
abbrev pub longest_piece : ℕ
longest_piece = 191 * samples_apiece + 21

-- a call with less room does nothing
unfoldable pub piece_in : Forecast → (room : ℕ) → Piece
piece_in f room = cond (leb longest_piece room) (piece_of f) (record { forecast = f; bytes = [] })
