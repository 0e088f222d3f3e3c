-- What holds in the loops of `trcf::transformer::transform_into`.
use lib.Ieee.{nan}
use lib.ListN.{get_or}
use mathlib.Core.Path.{◌≡◌}
use Rattle.refusal.specs.Lent.{over}
use Rattle.trcf.specs.Lists.{tabulate}
use Rattle.trcf.specs.TransformerCalls.{transformer_view}
use Rattle.trcf.specs.Transformer.{transform_by}
use Rattle.trcf.proofs.transformer.transform_into.Given as goal

abbrev pub invariant-loop-i : goal.invariant-loop-i
invariant-loop-i l =
    l.output ≡ over l.initial.output (tabulate l.i (λ k. transform_by l.t.transform_method (transformer_view l.t l.s) k (get_or l.input k nan) (get_or l.previous k nan)))
