-- What holds in the loops of `numeric::root::raised`.
use Rattle.std.proofs.Common.{◌-◌, ◌*◌, ◌≤◌}
use Rattle.numeric.proofs.root.raised.Given as goal

abbrev pub invariant-loop-r : goal.invariant-loop-r
invariant-loop-r l = l.r * l.r ≤ l.n

abbrev pub decreases-loop-r : goal.decreases-loop-r
decreases-loop-r l = l.n - l.r
