-- What holds in the loop of `snapshot::piece::field_end`.
use Prim.Native.Nat.{◌+◌}
use mathlib.Core.Path.{◌≡◌}
use lib.ListN.{drop}
use Rattle.snapshot.specs.Steps.Judge.{field_length}
use Rattle.snapshot.proofs.piece.field_end.Given as goal

abbrev pub invariant-loop-i : goal.invariant-loop-i
invariant-loop-i l = l.from + field_length (drop l.from l.text) ≡ l.i + field_length (drop l.i l.text)
