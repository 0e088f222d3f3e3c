-- What holds in the loops of `series::alignment::next_pair`.
use Prim.Native.Nat.{◌+◌, ◌-◌}
use lib.ListN.{length}
use Rattle.series.proofs.AlignmentLaws.Walk.{Skipped}
use Rattle.series.proofs.alignment.next_pair.Given as goal

abbrev pub invariant-loop-i : goal.invariant-loop-i
invariant-loop-i l = Skipped l.tolerance l.left l.right l.fn.front.left l.fn.front.right l.i l.j

abbrev pub decreases-loop-i : goal.decreases-loop-i
decreases-loop-i l = (length l.left - l.i) + (length l.right - l.j)
