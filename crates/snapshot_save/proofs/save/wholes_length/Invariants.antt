-- What holds in the loops of `snapshot_save::save::wholes_length`.
use Rattle.snapshot.specs.Steps.Write.{tabbed}
use Rattle.snapshot.specs.Text.{whole}
use lib.ListN.{length, drop}
use mathlib.Core.List.{map}
use mathlib.Core.Path.{◌≡◌}
use Prim.Native.Nat.{◌+◌, ◌*◌, ◌≤◌}
use Rattle.snapshot_save.proofs.save.wholes_length.Given as goal

abbrev pub invariant-loop-n : goal.invariant-loop-n
invariant-loop-n l = (length (tabbed (map whole l.v)) ≡ l.l + length (tabbed (map whole (drop l.n-index l.v)))) × (l.l ≤ 21 * l.n-index)
