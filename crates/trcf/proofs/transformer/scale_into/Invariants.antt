-- What holds in the loops of `trcf::transformer::scale_into`.
use Rattle.trcf.specs.Types.{normalizes}
use Rattle.trcf.specs.Transformer.{weight_at, normalized_scale}
use mathlib.Core.Bool.{cond}
use lib.Ieee.{binary32, mul}
use mathlib.Core.Path.{◌≡◌}
use Rattle.refusal.specs.Lent.{over}
use Rattle.trcf.specs.Lists.{tabulate}
use Rattle.trcf.specs.TransformerCalls.{transformer_view}
use Rattle.trcf.proofs.transformer.scale_into.Given as goal

abbrev pub invariant-loop-i : goal.invariant-loop-i
invariant-loop-i l = l.output ≡ over l.initial.output
    (tabulate l.i (λ k. cond (normalizes l.t.transform_method) (mul binary32 (weight_at (transformer_view l.t l.s) k) (normalized_scale (transformer_view l.t l.s) k))
    (weight_at (transformer_view l.t l.s) k)))
