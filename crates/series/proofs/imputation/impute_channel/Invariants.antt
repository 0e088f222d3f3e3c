-- What holds in the loops of `series::imputation::impute_channel`.
use mathlib.Core.Path.{◌≡◌}
use lib.ListN.{length}
use Rattle.series.proofs.ImputationLaws.{Walked}
use Rattle.series.proofs.imputation.impute_channel.Given as goal

abbrev pub invariant-loop-i : goal.invariant-loop-i
invariant-loop-i l =
    (length l.cells ≡ length l.initial.cells) × Walked l.ch l.marks l.initial.cells l.i l.gap l.cells
