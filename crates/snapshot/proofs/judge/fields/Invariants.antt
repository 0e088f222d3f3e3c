-- What holds in the loop of `snapshot::judge::fields`.
use lib.ListN.{length, drop}
use Rattle.snapshot.proofs.JudgeLaws.{Sofar}
use Rattle.snapshot.proofs.judge.fields.Given as goal

abbrev pub invariant-loop-slot : goal.invariant-loop-slot
invariant-loop-slot g l = Sofar g.T.Cell.read (length l.initial.out) (drop l.at l.text) l.initial.out l.out l.slot-index (drop l.p l.text)
