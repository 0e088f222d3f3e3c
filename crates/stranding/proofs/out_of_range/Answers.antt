-- `stranding::out_of_range` meets its contract.
use borrow.Author.Tests.{lt-ltb, le-ltb}
use Rattle.stranding.specs.Counts.{out_of_range}
use Rattle.stranding.proofs.out_of_range.Goals as goal

pub returns-then-n-lt1 : goal.returns-then-n-lt1
unfolding out_of_range
returns-then-n-lt1 c = rw (lt-ltb _ _ c.if-n-lt1.true)

pub returns-else-n-lt1 : goal.returns-else-n-lt1
unfolding out_of_range
returns-else-n-lt1 c = rw (le-ltb _ _ c.if-n-lt1.false)
