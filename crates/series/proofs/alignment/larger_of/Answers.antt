-- `alignment::larger_of` meets its contract.
use Rattle.series.specs.Gaps.{larger}
use Rattle.series.proofs.alignment.larger_of.Goals as goal

pub returns-then-g-s : goal.returns-then-g-s
unfolding larger
returns-then-g-s c = rw c.if-g-s.true

pub returns-else-g-s : goal.returns-else-g-s
unfolding larger
returns-else-g-s c = rw c.if-g-s.false
