-- What holds in the loops of `settle_core::scan::line_at`.
use mathlib.Core.Path.{◌≡◌}
use Prim.Native.Nat.{◌-◌, ◌≤◌}
use lib.ListN.{length, drop}
use Rattle.settle_core.specs.Input.{line_of}
use Rattle.settle_core.proofs.ScanLaws.{reads_from}
use Rattle.settle_core.proofs.scan.line_at.Given as goal

abbrev pub invariant-loop-at : goal.invariant-loop-at
invariant-loop-at l = (l.at ≤ length l.text) × (line_of (drop l.from l.text) ≡ reads_from l.line (drop l.at l.text))

abbrev pub decreases-loop-at : goal.decreases-loop-at
decreases-loop-at l = length l.text - l.at
