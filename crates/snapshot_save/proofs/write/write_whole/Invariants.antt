-- What holds in the loops of `snapshot_save::write::write_whole`.
use Rattle.snapshot.specs.Steps.Write.{stored}
use Rattle.snapshot.specs.Text.{whole}
use lib.ListN.{length}
use mathlib.Core.Path.{◌≡◌}
use Rattle.snapshot_save.proofs.write.write_whole.Given as goal

abbrev pub invariant-loop-i : goal.invariant-loop-i
invariant-loop-i l = (l.i ≡ length (whole l.m)) × (stored l.initial.out l.at (whole l.n) ≡ stored l.out l.at (whole l.m)) × (length l.out ≡ length l.initial.out)
