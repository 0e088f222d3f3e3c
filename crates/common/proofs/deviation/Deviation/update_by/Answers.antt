-- `common::deviation::Deviation::update_by` meets its contract: row 18 is its test. Assumes nothing.
use Rattle.std.proofs.Common.{◌<◌, ◌≤◌, arith, le-leb}
use borrow.Author.Tests.{lt-leb}
use Rattle.common.specs.Deviation.{count_limit, step_by, update_by}
use Rattle.common.proofs.deviation.Deviation.update_by.Goals as goal

pub returns-then-count-ge-COUNT_LIMIT : goal.returns-then-count-ge-COUNT_LIMIT
unfolding update_by
returns-then-count-ge-COUNT_LIMIT c = let h : count_limit ≤ c.args.self.count = omega arith in rw (le-leb _ _ h)

pub returns : goal.returns
unfolding update_by step_by
returns c = let h : c.args.self.count < count_limit = omega arith in rw (lt-leb _ _ h)
