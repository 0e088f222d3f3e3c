-- What holds in the loops of `series::alignment::count_pairs`.
use Prim.Native.Nat.{◌-◌}
use lib.ListN.{length}
use Rattle.series.proofs.AlignmentLaws.Walk.{Walked}
use Rattle.series.proofs.alignment.count_pairs.Given as goal

abbrev pub invariant-loop-pair : goal.invariant-loop-pair
invariant-loop-pair l = Walked l.tolerance l.left l.right l.n l.front.left l.front.right

abbrev pub decreases-loop-pair : goal.decreases-loop-pair
decreases-loop-pair l = length l.left - l.front.left
