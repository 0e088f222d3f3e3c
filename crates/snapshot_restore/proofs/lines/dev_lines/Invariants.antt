-- What holds in the loops of `snapshot_restore::lines::dev_lines`.
use lib.ListN.{drop}
use Rattle.snapshot.proofs.RunLaws.{Devs}
use Rattle.snapshot_restore.proofs.lines.dev_lines.Given as goal

abbrev pub invariant-loop-i : goal.invariant-loop-i
invariant-loop-i l = Devs l.n (drop l.at l.text) l.statistics l.i (drop l.p l.text)
