-- A forecast turned back keeps the lengths of its three lists. Assumes nothing.
use Prim.Native.Nat.{ℕ, zero, suc, ◌*◌, ◌/◌}
use mathlib.Core.Bool.{Bool, true, false, cond}
use mathlib.Core.Path.{◌≡◌, refl, ◌∙◌}
use mathlib.Core.List.{List}
use lib.ListN.{length}
use lib.Ieee.{Float, binary32}
use Rattle.ranges.specs.RangeVector.{Ranges, cascade_to}
use Rattle.ranges.proofs.RangeLaws.{SameLengths, put_at_lengths, cascade_to_lengths}
use Rattle.trcf.specs.Types.{differences}
use Rattle.trcf.specs.Transformer.{Transformer, forecast_to, inverted_forecast}

-- three lists of one length
pub record Even (v : Ranges) : Type 0 where
  pub upper : length v.upper ≡ length v.values
  pub lower : length v.lower ≡ length v.values

pub lengths_of_lem : {v w z : Ranges} → SameLengths v w → SameLengths w z → SameLengths v z
lengths_of_lem a b = record { values = a.values ∙ b.values; upper = a.upper ∙ b.upper; lower = a.lower ∙ b.lower }

pub forecast_to_lengths : (t : Transformer) (n : ℕ) (v : Ranges) → SameLengths (forecast_to t n v) v
unfolding forecast_to
forecast_to_lengths t zero v = record { values = refl; upper = refl; lower = refl }
forecast_to_lengths t (suc n) v = lengths_of_lem (put_at_lengths (forecast_to t n v) n _) (forecast_to_lengths t n v)

pub inverted_forecast_lengths : (t : Transformer) (previous : List Float) (v : Ranges) → SameLengths (inverted_forecast t previous v) v
unfolding inverted_forecast
inverted_forecast_lengths t previous v = go (differences t.method)
  where
    go : (b : Bool) → SameLengths
        (cond b (cascade_to binary32 previous (length v.values) (forecast_to t (length v.values / t.d * t.d) v)) (forecast_to t (length v.values / t.d * t.d) v)) v
    go true = lengths_of_lem (cascade_to_lengths binary32 previous (length v.values) _) (forecast_to_lengths t (length v.values / t.d * t.d) v)
    go false = forecast_to_lengths t (length v.values / t.d * t.d) v
