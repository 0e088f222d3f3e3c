-- What holds in the loops of `trcf::transformer::shift_into`.
use Rattle.numeric.specs.Narrow.{narrowed}
use Rattle.trcf.specs.Types.{centres}
use Rattle.trcf.specs.Transformer.{zero32, mean_at}
use mathlib.Core.Bool.{cond}
use lib.Ieee.{binary32, add}
use mathlib.Core.Path.{◌≡◌}
use Rattle.refusal.specs.Lent.{over}
use Rattle.trcf.specs.Lists.{tabulate}
use Rattle.trcf.proofs.transformer.shift_into.Given as goal

abbrev pub invariant-loop-i : goal.invariant-loop-i
invariant-loop-i l = l.output ≡ over l.initial.output (tabulate l.i (λ k. cond (centres l.m) (add binary32 zero32 (narrowed (mean_at l.s k))) zero32))
