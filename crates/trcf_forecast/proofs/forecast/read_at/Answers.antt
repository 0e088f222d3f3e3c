-- `forecast::read_at` meets its contract. The three reads. Assumes nothing.
use mathlib.Core.Path.{refl}
use Rattle.ranges.specs.RangeVector.{range_at}
use Rattle.trcf_forecast.proofs.forecast.read_at.Goals as goal

pub returns : goal.returns
unfolding range_at
returns c = refl
