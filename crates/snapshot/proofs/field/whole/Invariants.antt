-- What holds in the loops of `snapshot::field::whole`.
use mathlib.Core.Path.{◌≡◌}
use mathlib.Core.Bool.{true}
use lib.ListN.{drop}
use Rattle.snapshot.specs.Steps.Scan.{lead, scan}
use Rattle.snapshot.proofs.field.whole.Given as goal

abbrev pub invariant-loop-x : goal.invariant-loop-x
invariant-loop-x l = (lead l.c ≡ true) × (scan 0 l.c ≡ scan l.n (drop l.x-index l.c))
