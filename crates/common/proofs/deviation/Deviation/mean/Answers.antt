-- `common::deviation::Deviation::mean` meets its contract: each return is the case that `is_empty` picks. Assumes nothing.
use Rattle.common.specs.Deviation.{mean_of}
use Rattle.common.proofs.deviation.Deviation.mean.Goals as goal

pub returns-then-is_empty : goal.returns-then-is_empty
unfolding mean_of
returns-then-is_empty c = rw (← c.is_empty.ensures, c.if-is_empty.true)

pub returns-else-is_empty : goal.returns-else-is_empty
unfolding mean_of
returns-else-is_empty c = rw (← c.is_empty.ensures, c.if-is_empty.false)
