-- Whether what is lent to a part of a call has the lengths that the part works in: where it has not, the part changes nothing.
use Rattle.std.specs.Prelude.{ℕ, ◌*◌, Bool, true, false, ◌&&◌, ltb, leb, eqb}
use Rattle.common.specs.Deviation.{count_limit}
use Rattle.trcf.specs.Settings.{Settings, block}
use Rattle.trcf.specs.Preprocessor.{statistics_length}
use Rattle.trcf.specs.View.{head_row}

module _ {A : Type 0} where
  -- the new where all fits, and what was there otherwise
  unfoldable pub where_fits : Bool → A → A → A
  where_fits true new old = new
  where_fits false new old = old

-- m numbers in the room of n
unfoldable pub within : ℕ → ℕ → Bool
within m n = leb m n

-- no row refuses
unfoldable pub passes : ℕ → Bool
passes row = eqb row 0

-- a head that `build` can make, and its statistics in a list of n
unfoldable pub time_fits : Settings → ℕ → Bool
time_fits s n = eqb (head_row s) 0 && leb (statistics_length s) n

-- just its statistics, and an output of m with room for one transformed reading
unfoldable pub output_fits : Settings → ℕ → ℕ → Bool
output_fits s n m = eqb (head_row s) 0 && (eqb n (statistics_length s) && leb (block s) m)

-- besides, just the shingle of x inputs, and one reading
unfoldable pub transform_fits : Settings → ℕ → ℕ → ℕ → ℕ → Bool
transform_fits s n x reading m = output_fits s n m && (eqb x (s.d * s.k) && eqb reading s.d)

-- just its statistics, which can be fed once more, a reading and the one before it
unfoldable pub feed_fits : Settings → ℕ → ℕ → ℕ → ℕ → Bool
feed_fits s count n before reading =
    eqb (head_row s) 0 && (eqb n (statistics_length s) && (ltb count count_limit && (eqb before s.d && eqb reading s.d)))
