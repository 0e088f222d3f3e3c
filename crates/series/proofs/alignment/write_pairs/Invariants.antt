-- What holds in the loops of `series::alignment::write_pairs`.
use Prim.Native.Nat.{◌-◌}
use lib.ListN.{length}
use Rattle.series.proofs.AlignmentLaws.Compared.{lists, Compared}
use Rattle.series.proofs.alignment.write_pairs.Given as goal

abbrev pub invariant-loop-pair : goal.invariant-loop-pair
invariant-loop-pair l =
    Compared (lists l.d l.left l.left_times l.right l.right_times l.tolerance l.initial.left_out l.initial.right_out) l.left_out l.right_out l.gaps_out l.n l.front.left l.front.right

abbrev pub decreases-loop-pair : goal.decreases-loop-pair
decreases-loop-pair l = length l.left_times - l.front.left
