-- What holds in the loops of `trcf::blocks::invert_block`.
use Prim.Native.Nat.{◌*◌}
use mathlib.Core.Path.{◌≡◌}
use lib.ListN.{length}
use Rattle.ranges.specs.RangeVector.{ranges}
use Rattle.trcf.specs.Steps.Blocks.{places_by, turn_place}
use Rattle.trcf.proofs.BlockLaws.{Carrying}
use Rattle.trcf.proofs.blocks.invert_block.Given as goal

abbrev pub invariant-loop-j : goal.invariant-loop-j
invariant-loop-j l =
    (ranges l.values l.upper l.lower
    ≡ places_by (turn_place l.normalizes l.moves l.i l.channels.factors l.channels.scales l.channels.drifts l.initial.bases) (l.i * l.d) l.j (ranges l.initial.values l.initial.upper l.initial.lower))
    × Carrying l.carries (l.i * l.d) l.j l.values l.initial.bases l.bases
    × (length l.bases ≡ 16)
