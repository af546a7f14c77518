-- A forecast that has nothing to fly: one that is over, and one whose input cannot be read.
use mathlib.Core.Path.{◌≡◌, refl, ap}
use Prim.Native.Nat.{ℕ, zero, suc, ◌≤◌}
use native.Mathlib.Omega.{arith}
use mathlib.Core.Bool.{true, false≢true}
use Rattle.std.proofs.Common.{Option, None}
use mathlib.Core.List.{List, [], ◌++◌, append-nil}
use Rattle.run.specs.Limits.{ample}
use Rattle.lines.specs.Lines.{refusal_line}
use Rattle.flight.specs.declared.Flight.{Flight}
use Rattle.forecaster.specs.declared.Forecast.TheVariants.{Unread, Over}
use Rattle.forecaster.specs.Pieces.{is_over, unread_piece, piece_of}
use Rattle.forecaster.specs.Whole.{forecast_after, printed_after}

-- ---- a forecast that is over prints nothing more
pub over_still : (k : ℕ) (f : Option Flight) → (forecast_after k (Over f) ≡ Over f) × (printed_after k (Over f) ≡ [])
unfolding forecast_after printed_after piece_of
over_still zero f = (refl, refl)
over_still (suc k) f = over_still k f

-- ---- one whose input cannot be read prints 19
unread_over : (k : ℕ) → (is_over (forecast_after (suc k) Unread) ≡ true) × (printed_after (suc k) Unread ≡ refusal_line 19)
unfolding forecast_after printed_after piece_of unread_piece
unread_over k =
    let o = over_still k None in
    (ap is_over o.0, rw o.1 (append-nil (refusal_line 19)))

pub unread_so_far : (k : ℕ) → (rest : List ℕ) × (printed_after k Unread ++ rest ≡ refusal_line 19)
unfolding printed_after
unread_so_far zero = (refusal_line 19, refl)
unread_so_far (suc k) = ([], rw (append-nil, (unread_over k).1))

pub unread_all : (k : ℕ) → is_over (forecast_after k Unread) ≡ true → printed_after k Unread ≡ refusal_line 19
unfolding forecast_after
unread_all zero e = absurd (false≢true e)
unread_all (suc k) e = (unread_over k).1

pub unread_ends : (k : ℕ) → ample ≤ k → is_over (forecast_after k Unread) ≡ true
unread_ends zero h = absurd (omega arith)
unread_ends (suc k) h = (unread_over k).0
