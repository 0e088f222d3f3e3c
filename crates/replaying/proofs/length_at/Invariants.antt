-- What holds in the loop of `replaying::length_at`: the number stays below 10,000,000.
use Rattle.std.proofs.Common.{◌≤◌}
use Rattle.replaying.proofs.length_at.Given as goal

abbrev pub invariant-loop-i : goal.invariant-loop-i
invariant-loop-i l = l.value ≤ 9999999
