use Rattle.std.proofs.Common.{◌≤◌}
use Rattle.bench.proofs.all.Given as goal

abbrev pub invariant-loop : goal.invariant-loop
invariant-loop g l = l.run.kept ≤ 24
