-- What holds in the loops of `snapshot_save::write::whole_length`.
use Prim.Native.Nat.{◌+◌}
use mathlib.Core.Path.{◌≡◌}
use lib.ListN.{length}
use Rattle.snapshot.specs.Text.{whole}
use Rattle.snapshot_save.proofs.write.whole_length.Given as goal

abbrev pub invariant-loop-m : goal.invariant-loop-m
invariant-loop-m l = length (whole l.n) + 1 ≡ l.l + length (whole l.m)

abbrev pub decreases-loop-m : goal.decreases-loop-m
decreases-loop-m l = l.m
