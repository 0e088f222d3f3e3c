-- What holds in the loops of `series::imputation::fill_gap`.
use mathlib.Core.Path.{◌≡◌}
use lib.ListN.{length}
use Rattle.series.specs.Steps.ImputationSteps.{gap_of}
use Rattle.series.proofs.imputation.fill_gap.Given as goal

abbrev pub invariant-loop-j : goal.invariant-loop-j
invariant-loop-j l =
    (length l.cells ≡ length l.initial.cells) × (l.cells ≡ gap_of l.ch l.gap l.j l.after l.initial.cells)
