-- One pair compared, channel by channel: what the private step of `align` leaves.
use Rattle.std.specs.Prelude.{ℕ, ◌+◌, List, length, get_or, Float}
use Rattle.std.specs.Float.{nan}
use Rattle.series.specs.Gaps.{difference_size, larger, per_channel}

-- the sizes so far, with those of the two readings whose cells begin at a and at b
unfoldable pub widened : List Float → ℕ → List Float → ℕ → List Float → List Float
widened l a r b g = per_channel (length g) (λ c. larger (get_or g c nan) (difference_size (get_or l (a + c) nan) (get_or r (b + c) nan)))
