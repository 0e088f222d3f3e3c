-- `common::deviation::size_of` meets its contract: each return is the case of `float_size` that its test picks. Assumes nothing.
use Rattle.common.specs.Steps.Whole.{float_size}
use Rattle.common.proofs.deviation.size_of.Goals as goal

pub returns-then-x : goal.returns-then-x
unfolding float_size
returns-then-x c = rw c.if-x.true

pub returns-else-x : goal.returns-else-x
unfolding float_size
returns-else-x c = rw c.if-x.false
