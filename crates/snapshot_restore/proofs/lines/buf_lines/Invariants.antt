-- What holds in the loops of `snapshot_restore::lines::buf_lines`.
use lib.ListN.{drop}
use Rattle.snapshot.proofs.RunLaws.{Bufs}
use Rattle.snapshot_restore.proofs.lines.buf_lines.Given as goal

abbrev pub invariant-loop-i : goal.invariant-loop-i
invariant-loop-i l = Bufs l.d l.n (drop l.at l.text) l.values l.times l.i l.past (drop l.p l.text)
