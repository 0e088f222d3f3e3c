-- What holds in the loops of `snapshot_save::write::write_hex`.
use Prim.Native.Nat.{◌≤◌}
use mathlib.Core.Path.{◌≡◌}
use lib.ListN.{length}
use Rattle.snapshot.specs.Text.{hex}
use Rattle.snapshot.specs.Steps.Write.{stored}
use Rattle.snapshot_save.proofs.write.write_hex.Given as goal

abbrev pub invariant-loop-i : goal.invariant-loop-i
invariant-loop-i l = (l.i ≤ l.w) × (stored l.initial.out l.at (hex l.w l.n) ≡ stored l.out l.at (hex l.i l.m)) × (length l.out ≡ length l.initial.out)

abbrev pub decreases-loop-i : goal.decreases-loop-i
decreases-loop-i l = l.i
