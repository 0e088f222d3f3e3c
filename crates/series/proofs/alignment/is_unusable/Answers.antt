-- `alignment::is_unusable` meets its contract.
use borrow.Author.Tests.{lt-ltb, le-ltb}
use Rattle.series.specs.Alignment.{unusable}
use Rattle.series.proofs.AlignmentLaws.Falls.{falls_of_sorted}
use Rattle.series.proofs.alignment.is_unusable.Goals as goal

pub returns-then-times-gt-LIMIT : goal.returns-then-times-gt-LIMIT
unfolding unusable
returns-then-times-gt-LIMIT c = rw (lt-ltb _ _ c.if-times-gt-LIMIT.true)

pub returns-else-times-gt-LIMIT : goal.returns-else-times-gt-LIMIT
unfolding unusable
returns-else-times-gt-LIMIT c = rw (le-ltb _ _ c.if-times-gt-LIMIT.false, falls_of_sorted c.args.times.now c.is_sorted.result c.is_sorted.ensures.cases)
