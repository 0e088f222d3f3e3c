-- What holds in the loops of `trcf::transformer::channels_into`.
use mathlib.Core.Path.{◌≡◌}
use lib.ListN.{length}
use Rattle.trcf.specs.TransformerCalls.{transformer_view}
use Rattle.trcf.specs.Steps.Blocks.{FactorsIn}
use Rattle.trcf.proofs.transformer.channels_into.Given as goal

abbrev pub invariant-loop-j : goal.invariant-loop-j
invariant-loop-j l =
    FactorsIn (transformer_view l.t l.s) l.previous l.j l.channels.factors l.channels.scales l.channels.drifts l.bases
    × (length l.channels.factors ≡ 16) × (length l.channels.scales ≡ 16) × (length l.channels.drifts ≡ 16)
