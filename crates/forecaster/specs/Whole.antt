-- The pieces, one after the other, are all that is printed; and there are not endlessly many. `prints_all` in proofs/Whole.antt.
use Rattle.std.specs.Prelude.{◌≡◌, ℕ, zero, suc, ◌≤◌, true, List, [], ◌++◌}
use Rattle.run.specs.Limits.{ample}
use Rattle.forecaster.specs.declared.Forecast.{Forecast}
use Rattle.forecaster.specs.Printed.{printed}
use Rattle.forecaster.specs.Pieces.{is_over, begun, piece_of}

-- after k pieces, and what they printed
unfoldable pub forecast_after : (k : ℕ) → Forecast → Forecast
forecast_after zero f = f
forecast_after (suc k) f = forecast_after k (piece_of f).forecast

unfoldable pub printed_after : (k : ℕ) → Forecast → List ℕ
printed_after zero f = []
printed_after (suc k) f = (piece_of f).bytes ++ printed_after k (piece_of f).forecast

-- for every input at all
pub record PrintsAll (text : List ℕ) : Type 0 where
  -- what was printed so far begins the whole
  pub so_far : (k : ℕ) → (rest : List ℕ) × (printed_after k (begun text) ++ rest ≡ printed text)
  -- once the forecast is over it is the whole
  pub all : (k : ℕ) → is_over (forecast_after k (begun text)) ≡ true → printed_after k (begun text) ≡ printed text
  -- and it is over in the end: `ample` is above every count of answers
  pub ends : (k : ℕ) → ample ≤ k → is_over (forecast_after k (begun text)) ≡ true
