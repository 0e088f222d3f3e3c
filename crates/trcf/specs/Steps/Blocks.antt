-- The forecast in the order in which the code turns it back: block by block, with what each channel is scaled and shifted by in lists.
-- proofs/BlockLaws.antt shows that this is `inverted_forecast`.
use Rattle.std.specs.Prelude.{ℕ, zero, suc, ◌+◌, ◌<◌, ◌≡◌, Bool, cond, ◌||◌, List, pos, length, get_or, Float}
use Rattle.std.specs.Float.{nan, binary32}
use Rattle.std.specs.Float.Ieee.{mul, of_int}
use Rattle.ranges.specs.RangeVector.{Range, Ranges, shifted, scaled, range_at, put_at}
use Rattle.trcf.specs.Types.{is_none, normalizes, differences, centres}
use Rattle.trcf.specs.Transformer.{Transformer, reciprocal, weight_at, normalized_scale, basic_drift, basic_shift, scaled_if, shifted_if}
use Rattle.trcf.specs.declared.types.TransformMethod.{TransformMethod}

-- n places from `at` on, each on its own: place at + j by g j
unfoldable pub places_by : (ℕ → Range → Range) → ℕ → ℕ → Ranges → Ranges
places_by g at zero v = v
places_by g at (suc j) v = let w = places_by g at j v in put_at w (at + j) (g j (range_at w (at + j)))

-- block i is shifted by i times the drift
abbrev pub drift_by : ℕ → Float → Float
drift_by i drift = mul binary32 (of_int binary32 (pos i)) drift

-- a number of a weighted channel: the shift is the drift's, and the base what it is shifted by last
unfoldable pub turn_by : Bool → Bool → Float → Float → Float → Float → Range → Range
turn_by normal moves factor scale shift base r =
    shifted_if moves (shifted binary32 (scaled_if normal (scaled binary32 r factor) scale) shift) base

-- channel j in block i, over the lists of the factors, scales, drifts and bases
abbrev pub drift_place : ℕ → List Float → ℕ → Range → Range
drift_place i ds j r = shifted binary32 r (drift_by i (get_or ds j nan))

abbrev pub turn_place : Bool → Bool → ℕ → List Float → List Float → List Float → List Float → ℕ → Range → Range
turn_place normal moves i fs ss ds bs j r =
    turn_by normal moves (get_or fs j nan) (get_or ss j nan) (drift_by i (get_or ds j nan)) (get_or bs j nan) r

-- by the method: under NONE the drift alone
abbrev pub moves : TransformMethod → Bool
moves m = centres m || differences m

unfoldable pub invert_place : TransformMethod → ℕ → List Float → List Float → List Float → List Float → ℕ → Range → Range
invert_place m i fs ss ds bs j r = cond (is_none m) (drift_place i ds j r) (turn_place (normalizes m) (moves m) i fs ss ds bs j r)

-- where b says so, the first n bases are the values from `at` on
abbrev pub CarriedTo : Bool → ℕ → ℕ → List Float → List Float → List Float → Type 0
CarriedTo b at n l old new = (k : ℕ) → k < n → get_or new k nan ≡ cond b (get_or l (at + k) nan) (get_or old k nan)

pub record Carried (b : Bool) (at n : ℕ) (l old new : List Float) : Type 0 where
  pub long : length new ≡ length old
  pub each : CarriedTo b at n l old new

-- the lists hold what the first n channels are scaled and shifted by in the first block
pub record FactorsIn (t : Transformer) (previous : List Float) (n : ℕ) (fs ss ds bs : List Float) : Type 0 where
  pub long : length bs ≡ 16
  pub factor : (k : ℕ) → k < n → get_or fs k nan ≡ reciprocal (weight_at t k)
  pub scale : (k : ℕ) → k < n → get_or ss k nan ≡ normalized_scale t k
  pub drift : (k : ℕ) → k < n → get_or ds k nan ≡ basic_drift t k
  pub base : (k : ℕ) → k < n → get_or bs k nan ≡ cond (differences t.method) (get_or previous k nan) (basic_shift t k)
