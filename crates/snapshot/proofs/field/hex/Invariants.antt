-- What holds in the loops of `snapshot::field::hex`.
use Rattle.snapshot.proofs.HexLaws.{Told}
use Rattle.snapshot.proofs.field.hex.Given as goal

abbrev pub invariant-loop-x : goal.invariant-loop-x
invariant-loop-x l = Told l.c l.n l.largest l.x-index
