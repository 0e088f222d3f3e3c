-- What holds in the loops of `numeric::root::lowered`.
use Rattle.std.proofs.Common.{◌^◌, ◌<◌}
use Rattle.numeric.proofs.root.lowered.Given as goal

abbrev pub invariant-loop-r : goal.invariant-loop-r
invariant-loop-r l = l.r < 2 ^ 27

abbrev pub decreases-loop-r : goal.decreases-loop-r
decreases-loop-r l = l.r
