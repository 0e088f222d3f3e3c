-- `rangevector::RangeVector::put` meets its contract. The three stores. Assumes nothing.
use mathlib.Core.Path.{refl}
use Rattle.ranges.specs.RangeVector.{put_at}
use Rattle.ranges.proofs.rangevector.RangeVector.put.Goals as goal

pub returns-clause-after : goal.returns-clause-after
unfolding put_at
returns-clause-after g c = refl
