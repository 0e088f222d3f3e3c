-- `rangevector::copy_front` meets its contract. The front is overwritten, the rest stays. Assumes nothing.
use Rattle.refusal.specs.Lent.{over}
use Rattle.ranges.proofs.rangevector.copy_front.Goals as goal

pub returns : goal.returns
unfolding over
returns g c = rw c.copy_from_slice.ensures.after
