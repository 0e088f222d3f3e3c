-- What holds in the loops of `snapshot_save::write::dev_lines`.
use Rattle.snapshot.proofs.WriteLaws.{Left}
use Rattle.snapshot.specs.Text.{bytes_of, dev_lines}
use lib.ListN.{drop}
use Prim.Native.Nat.{◌*◌}
use Rattle.snapshot_save.proofs.write.dev_lines.Given as goal

abbrev pub invariant-loop-i : goal.invariant-loop-i
invariant-loop-i l = Left l.at (bytes_of (dev_lines l.v)) l.initial.out l.p (bytes_of (dev_lines (drop (l.i * 3) l.v))) l.out
