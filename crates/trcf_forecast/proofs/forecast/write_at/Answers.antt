-- `forecast::write_at` meets its contract. The three stores. Assumes nothing.
use mathlib.Core.Path.{refl}
use Rattle.ranges.specs.RangeVector.{put_at}
use Rattle.trcf_forecast.proofs.forecast.write_at.Goals as goal

pub returns-clause-after : goal.returns-clause-after
unfolding put_at
returns-clause-after c = refl
