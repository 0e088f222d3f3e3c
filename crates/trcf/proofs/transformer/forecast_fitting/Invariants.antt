-- What holds in the loops of `trcf::transformer::forecast_fitting`.
use mathlib.Core.Path.{◌≡◌}
use lib.ListN.{length}
use Rattle.ranges.specs.RangeVector.{held, AreSameLoans}
use Rattle.trcf.specs.Transformer.{Transformer}
use Rattle.trcf.specs.Steps.Blocks.{FactorsIn}
use Rattle.trcf.proofs.BlockLaws.{Turned}
use Rattle.trcf.proofs.transformer.forecast_fitting.Given as goal

abbrev pub invariant-loop-i : goal.invariant-loop-i
invariant-loop-i l =
    ((t : Transformer) → t.method ≡ l.m → t.d ≡ l.d → FactorsIn t l.previous t.d l.channels.factors l.channels.scales l.channels.drifts l.initial.bases
    → Turned t l.previous l.i (held l.initial.range) (held l.range) l.bases)
    × (length l.bases ≡ 16)
    × AreSameLoans l.initial.range l.range
