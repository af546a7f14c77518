-- A flight: a run that is answered by the pull of a point mass, piece by piece, each piece with a room that begins at the next sample.
-- `taken_off` and `flown_on` are what the contracts of `take_off` and `fly_on` cite.
use Rattle.std.specs.Prelude.{ℕ, zero, suc, ◌+◌, ◌*◌, Bool, true, false, ◌&&◌, cond, Option, Some, None, Ok, Err, List, ltb, length, Float}
use Rattle.triple.specs.declared.Triple.{Triple}
use Rattle.refusals.specs.Numbers.{number_of}
use Rattle.refusals.specs.declared.Refusal.TheVariants.{TooLow}
use Rattle.plan.specs.declared.Settings.{Settings}
use Rattle.run.specs.Limits.{ample}
use Rattle.run.specs.Samples.{tens, numbers_of, is_placed}
use Rattle.gauss_jackson.specs.declared.Question.{Question}
use Rattle.gauss_jackson.specs.declared.Outcome.{Outcome}
use Rattle.gauss_jackson.specs.declared.Outcome.TheVariants.{Ask, Done, Refused}
use Rattle.gauss_jackson.specs.declared.Answered.{Answered}
use Rattle.gauss_jackson.specs.Answers.{Given, started, answered}
use Rattle.point_mass.specs.Force.{answer_at}
use Rattle.flight.specs.declared.Phase.{Phase}
use Rattle.flight.specs.declared.Phase.TheVariants.{Asks, Over}
use Rattle.flight.specs.declared.Flight.{Flight}

-- ---- whether a question is open, and how a flight ended: 0 where it ended well or goes on, else the refusal's number
abbrev pub asks_in : Phase → Bool
asks_in (Asks q) = true
asks_in (Over e) = false

abbrev pub ending_in : Phase → ℕ
ending_in (Asks q) = 0
ending_in (Over (Ok x)) = 0
ending_in (Over (Err e)) = number_of e

abbrev pub is_asking : Flight → Bool
is_asking f = asks_in f.phase

abbrev pub ending_of : Flight → ℕ
ending_of f = ending_in f.phase

-- ---- a flight after a call: its question, or how it ended; `next` is the number of the next sample
unfoldable pub phase_of : Outcome → Phase
phase_of (Ask q) = Asks q
phase_of (Done s) = Over (Ok tt)
phase_of (Refused e) = Over (Err e)

unfoldable pub flight_of : (next : ℕ) → Answered → Flight
flight_of next x = record { run = x.run; next = next; phase = phase_of x.outcome }

unfoldable pub taken_off : Settings → (t0 tf : Float) → (r0 v0 : Triple) → Flight
taken_off s t0 tf r0 v0 = flight_of 0 (started s t0 tf r0 v0)

-- ---- one question answered, with a room that begins at sample `from`; too low, the flight ends by 15
pub record Flown : Type 0 where
  pub flight : Flight
  pub out : List Float

unfoldable pub flown_after : (next : ℕ) → Given → Flown
flown_after next g = record { flight = flight_of (next + g.got.stored) g.got; out = numbers_of g.out }

unfoldable pub answered_by : Question → Triple → (from : ℕ) → Flight → List Float → Flown
answered_by q a from f numbers = flown_after f.next (answered f.run q.number a (tens from numbers))

unfoldable pub landed_low : Flight → Flight
landed_low f = record { run = f.run; next = f.next; phase = Over (Err TooLow) }

unfoldable pub pulled_by : Question → Option Triple → (from : ℕ) → Flight → List Float → Flown
pulled_by q None from f numbers = record { flight = landed_low f; out = numbers }
pulled_by q (Some a) from f numbers = answered_by q a from f numbers

-- where none is open, none is answered
unfoldable pub answered_in : Phase → (from : ℕ) → Flight → List Float → Flown
answered_in (Asks q) from f numbers = pulled_by q (answer_at q.r) from f numbers
answered_in (Over e) from f numbers = record { flight = f; out = numbers }

unfoldable pub answered_once : (from : ℕ) → Flight → List Float → Flown
answered_once from f numbers = answered_in f.phase from f numbers

-- ---- a piece: while a question is open and the next five samples have their place, so many answers at most
-- above the number of any sample of a run, so that the next number can be told
abbrev pub beyond : ℕ
beyond = 10 * ample

unfoldable pub is_ready : (asks : Bool) (from next room : ℕ) → Bool
is_ready asks from next room = asks && is_placed from next 5 room && ltb next beyond

unfoldable pub flown_by : (left from : ℕ) → Flight → List Float → Flown
flown_by zero from f numbers = record { flight = f; out = numbers }
flown_by (suc left) from f numbers =
    cond (is_ready (is_asking f) from f.next (length numbers))
    (flown_by left from (answered_once from f numbers).flight (answered_once from f numbers).out)
    (record { flight = f; out = numbers })

abbrev pub piece : ℕ
piece = 4096

unfoldable pub flown_on : Flight → List Float → Flown
flown_on f numbers = flown_by piece f.next f numbers
