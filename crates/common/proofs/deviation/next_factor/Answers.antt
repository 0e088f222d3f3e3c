-- `common::deviation::next_factor` meets its contract: the factor while the count is below the limit. Assumes nothing.
use Rattle.std.proofs.Common.{◌<◌, ◌≤◌, arith, le-ltb, lt-ltb}
use Rattle.common.specs.Deviation.{count_limit, next_factor}
use Rattle.common.proofs.deviation.next_factor.Goals as goal

pub returns-then-count-lt-COUNT_LIMIT : goal.returns-then-count-lt-COUNT_LIMIT
unfolding next_factor
returns-then-count-lt-COUNT_LIMIT c = let h : c.args.count < count_limit = omega arith in rw (lt-ltb _ _ h) c.factor.ensures

pub returns : goal.returns
unfolding next_factor
returns c = let h : count_limit ≤ c.args.count = omega arith in rw (le-ltb _ _ h)
