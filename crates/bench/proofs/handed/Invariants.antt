use Rattle.std.proofs.Common.{◌≡◌, ◌≤◌, ◌+◌, length, false, cond}
use Rattle.bench.proofs.handed.Given as goal

abbrev pub invariant-loop-r : goal.invariant-loop-r
invariant-loop-r g l = (l.r.kept ≤ length l.text) × (l.r.full ≡ false → l.r.kept ≤ 24)

abbrev pub decreases-loop-r : goal.decreases-loop-r
decreases-loop-r g l = cond l.r.full (l.r.kept + 1) 0
