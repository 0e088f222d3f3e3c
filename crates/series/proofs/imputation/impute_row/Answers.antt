-- `imputation::impute_row` meets its contract: its tests in their order. Assumes nothing.
use mathlib.Core.Path.{sym, ◌∙◌}
use lib.ListN.{length}
use native.Mathlib.Omega.{arith}
use Rattle.std.proofs.lemmas.Bool.Decides.{nat_tests}
use Rattle.series.specs.Imputation.{impute_row}
use Rattle.series.proofs.ImputationRows.{shaped}
use Rattle.series.proofs.imputation.impute_row.Goals as goal

pub returns-then-d-eq0-clause-value : goal.returns-then-d-eq0-clause-value
unfolding impute_row
returns-then-d-eq0-clause-value c = grind (arith, nat_tests)

pub returns-then-d-gt-DIMENSIONS_LIMIT-clause-value : goal.returns-then-d-gt-DIMENSIONS_LIMIT-clause-value
unfolding impute_row
returns-then-d-gt-DIMENSIONS_LIMIT-clause-value c = grind (arith, nat_tests)

pub returns-then-is_misshapen-clause-value : goal.returns-then-is_misshapen-clause-value
unfolding impute_row
returns-then-is_misshapen-clause-value c = grind (arith, nat_tests)

pub returns-then-cells-n-gt-READINGS_LIMIT-clause-value : goal.returns-then-cells-n-gt-READINGS_LIMIT-clause-value
unfolding impute_row
returns-then-cells-n-gt-READINGS_LIMIT-clause-value c = grind (arith, nat_tests)

pub returns-then-not-present_finite-clause-value : goal.returns-then-not-present_finite-clause-value
unfolding impute_row
returns-then-not-present_finite-clause-value c = grind (arith, nat_tests)

pub returns-clause-value : goal.returns-clause-value
unfolding impute_row
returns-clause-value c = grind (arith, nat_tests)

pub returns-clause-cells_shaped : goal.returns-clause-cells_shaped
returns-clause-cells_shaped c =
    let a = c.args in
    shaped a.d (length a.cells.now) (length a.marks.now) (length a.fixed.now) (omega arith) (omega arith) (sym c.is_misshapen.ensures ∙ c.if-is_misshapen.false)
