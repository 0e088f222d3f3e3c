-- What holds in the loops of `trcf::transformer::difference_deviations_into`.
use Rattle.numeric.specs.Narrow.{narrowed}
use Rattle.trcf.specs.Transformer.{mean_at}
use Prim.Native.Nat.{◌+◌, ◌*◌}
use mathlib.Core.Path.{◌≡◌}
use Rattle.refusal.specs.Lent.{over}
use Rattle.trcf.specs.Lists.{tabulate}
use Rattle.trcf.proofs.transformer.difference_deviations_into.Given as goal

abbrev pub invariant-loop-i : goal.invariant-loop-i
invariant-loop-i l = l.output ≡ over l.initial.output (tabulate l.i (λ k. narrowed (mean_at l.s (k + 4 * l.d))))
