-- What holds in the loops of `series::imputation::impute_channels`.
use mathlib.Core.Path.{◌≡◌}
use lib.ListN.{length}
use Rattle.series.specs.Imputation.{by_place}
use Rattle.series.specs.Steps.ImputationSteps.{below_at}
use Rattle.series.proofs.imputation.impute_channels.Given as goal

abbrev pub invariant-loop-c : goal.invariant-loop-c
invariant-loop-c l =
    (length l.cells ≡ length l.initial.cells) × (l.cells ≡ by_place (below_at l.method l.d l.initial.cells l.marks l.fixed l.c) l.initial.cells)
