-- `rangevector::RangeVector::cascade` meets its contract. Before the turn at i the first i indices are done. Assumes nothing.
use Rattle.ranges.proofs.RangeSteps.{cascade_more, same_since}
use Rattle.ranges.proofs.rangevector.RangeVector.cascade.Goals as goal

pub loop-i-preserved : goal.loop-i-preserved
loop-i-preserved g c = (
  cascade_more g.T.Width.operations _ _ _ _ _ _ c.loop-i.invariant.0 c.before-x.ensures c.shift_at.ensures.after,
  same_since c.loop-i.invariant.1 c.shift_at.ensures.loans,
)
