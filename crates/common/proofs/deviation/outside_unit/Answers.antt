-- `common::deviation::outside_unit` meets its contract: `and` by its first test. Assumes nothing.
use Rattle.common.specs.Deviation.{outside_unit}
use Rattle.common.proofs.deviation.outside_unit.Goals as goal
use Rattle.common.proofs.deviation.outside_unit.Goals.{then-discount, else-discount}

pub returns : goal.returns
unfolding outside_unit
returns c = elim c.if-discount.branch [ then-discount w ↦ rw (w.result-is, w.if-discount.true) | else-discount w ↦ rw (w.result-is, w.if-discount.false) ]
