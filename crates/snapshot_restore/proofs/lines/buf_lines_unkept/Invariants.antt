-- What holds in the loops of `snapshot_restore::lines::buf_lines_unkept`.
use mathlib.Core.Path.{◌≡◌}
use lib.ListN.{length, drop}
use Rattle.snapshot.proofs.RunLaws.{Unkept}
use Rattle.snapshot_restore.proofs.lines.buf_lines_unkept.Given as goal

abbrev pub invariant-loop-i : goal.invariant-loop-i
invariant-loop-i l = (length l.values ≡ 16) × Unkept l.d l.n (drop l.at l.text) l.i l.past (drop l.p l.text)
