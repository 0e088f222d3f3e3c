-- What holds in the loops of `trcf::blocks::drift_block`.
use Prim.Native.Nat.{◌*◌}
use mathlib.Core.Path.{◌≡◌}
use Rattle.ranges.specs.RangeVector.{ranges}
use Rattle.trcf.specs.Steps.Blocks.{places_by, drift_place}
use Rattle.trcf.proofs.blocks.drift_block.Given as goal

abbrev pub invariant-loop-j : goal.invariant-loop-j
invariant-loop-j l =
    ranges l.values l.upper l.lower ≡ places_by (drift_place l.i l.drifts) (l.i * l.d) l.j (ranges l.initial.values l.initial.upper l.initial.lower)
