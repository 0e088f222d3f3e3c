-- What holds in the loops of `trcf::transformer::invert_fitting`.
use Rattle.trcf.specs.Transformer.{invert_by, unweighted, weight_at}
use lib.Ieee.{nan}
use lib.ListN.{get_or}
use mathlib.Core.Path.{◌≡◌}
use Rattle.refusal.specs.Lent.{over}
use Rattle.trcf.specs.Lists.{tabulate}
use Rattle.trcf.specs.TransformerCalls.{transformer_view}
use Rattle.trcf.proofs.transformer.invert_fitting.Given as goal

abbrev pub invariant-loop-i : goal.invariant-loop-i
invariant-loop-i l = l.output ≡ over l.initial.output
    (tabulate l.i (λ k. invert_by l.t.transform_method (transformer_view l.t l.s) k (unweighted (weight_at (transformer_view l.t l.s) k) (get_or l.input k nan)) (get_or l.previous k nan)))
