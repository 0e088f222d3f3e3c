-- `common::deviation::Deviation::set_count` meets its contract: row 18 is its test. Assumes nothing.
use Rattle.std.proofs.Common.{◌<◌, ◌≤◌, arith, le-ltb, lt-ltb}
use Rattle.common.specs.Deviation.{count_limit, deviation_set_count}
use Rattle.common.proofs.deviation.Deviation.set_count.Goals as goal

pub returns-then-count-gt-COUNT_LIMIT : goal.returns-then-count-gt-COUNT_LIMIT
unfolding deviation_set_count
returns-then-count-gt-COUNT_LIMIT c = let h : count_limit < c.args.count = omega arith in rw (lt-ltb _ _ h)

pub returns : goal.returns
unfolding deviation_set_count
returns c = let h : c.args.count ≤ count_limit = omega arith in rw (le-ltb _ _ h)
