-- `invert_extrapolation` (document 01: turn-back) on what the program holds: its rows, and what it leaves.
use Rattle.std.specs.Prelude.{ℕ, ◌*◌, Bool, cond, ◌||◌, List, [], ◌∷◌, ltb, length, Float}
use Rattle.refusal.specs.Refusal.{first_of}
use Rattle.ranges.specs.RangeVector.{Ranges}
use Rattle.trcf.specs.Settings.{Settings}
use Rattle.trcf.specs.Calls.{Forecast, Sizes, sizes_of, forecast_table}
use Rattle.trcf.specs.Preprocessor.{State, statistics_length, turned_back, accepted}
use Rattle.trcf.specs.View.{lent, view, settings_of, counters_unfit, head_row, or_else}
use Rattle.trcf.specs.declared.head.Preprocessor.{Preprocessor}

-- ---- the call

-- the row, 0 for none, and the final contents of the nine lists that are lent to be written
pub record Extrapolation : Type 0 where
  pub row : ℕ
  pub left : Forecast

abbrev pub extrapolation : ℕ → Forecast → Extrapolation
extrapolation n c = record { row = n; left = c }

abbrev pub forecast : Ranges → Ranges → Ranges → Forecast
forecast v o t = record { forecast = v; values_out = o; times_out = t }

-- the call reads three of the six lists that a preprocessor has, so it is handed these alone
unfoldable pub viewed : Preprocessor → List Float → List Float → List ℕ → State
viewed h st x ts = view h (lent st x [] ts [] [])

-- one of the three is shorter than the part in use
unfoldable pub read_short : Settings → ℕ → ℕ → ℕ → Bool
read_short s st x ts = ltb st (statistics_length s) || (ltb x (s.d * s.k) || ltb ts s.k)

-- 20 for the head's counters and for what is lent: `lent_row`, of the three lists
unfoldable pub read_short_row : Preprocessor → ℕ → ℕ → ℕ → ℕ
read_short_row h st x ts = cond (counters_unfit h) 20 (first_of ((read_short (settings_of h) st x ts, 20) ∷ []))

-- As `row_of`: the rows of a head that `build` never made, document 01's of the call, and 20 for counters and what is lent. They look at lengths alone:
-- st, x and ts of the three lists that are read.
unfoldable pub row_at : Preprocessor → ℕ → ℕ → ℕ → Sizes → ℕ
row_at h st x ts z = or_else (head_row (settings_of h)) (or_else (first_of (forecast_table (settings_of h) z)) (read_short_row h st x ts))

unfoldable pub extrapolation_row : Preprocessor → List Float → List Float → List ℕ → Forecast → ℕ
extrapolation_row h st x ts c = row_at h (length st) (length x) (length ts) (sizes_of c)

-- a refusal leaves every list as it was
unfoldable pub extrapolation_of : Preprocessor → List Float → List Float → List ℕ → Forecast → Extrapolation
extrapolation_of h st x ts c =
    let n = extrapolation_row h st x ts c in
    extrapolation n (accepted n (turned_back (viewed h st x ts) c) c)
