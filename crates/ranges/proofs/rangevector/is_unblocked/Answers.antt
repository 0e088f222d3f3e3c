-- `rangevector::is_unblocked` meets its contract. The tests in their order. Assumes nothing.
use Rattle.std.proofs.Common.{rules}
use Rattle.ranges.specs.RangeVector.{unblocked}
use Rattle.ranges.proofs.rangevector.is_unblocked.Goals as goal

pub returns-then-values-eq0 : goal.returns-then-values-eq0
unfolding unblocked
returns-then-values-eq0 c = search rules

pub returns-else-values-eq0 : goal.returns-else-values-eq0
unfolding unblocked
returns-else-values-eq0 c = search rules
