-- `settling::signal::in_limits` meets its contract. Assumes nothing.
use Rattle.std.proofs.Common.{rules}
use Rattle.settling.specs.Settling.{in_limits}
use Rattle.settling.proofs.signal.in_limits.Goals as goal

pub returns-then-is_small-4 : goal.returns-then-is_small-4
unfolding in_limits
returns-then-is_small-4 c = search rules

pub returns-else-is_small-4 : goal.returns-else-is_small-4
unfolding in_limits
returns-else-is_small-4 c = search rules
