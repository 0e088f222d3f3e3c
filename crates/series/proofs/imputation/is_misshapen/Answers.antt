-- `imputation::is_misshapen` meets its contract. Assumes nothing.
use native.Mathlib.Omega.{arith}
use Rattle.std.proofs.lemmas.Bool.Decides.{nat_tests}
use Rattle.series.specs.Imputation.{cells_misshapen}
use Rattle.series.proofs.imputation.is_misshapen.Goals as goal

pub returns-then-marks-cells : goal.returns-then-marks-cells
unfolding cells_misshapen
returns-then-marks-cells c = grind (arith, nat_tests)

pub returns-else-marks-cells : goal.returns-else-marks-cells
unfolding cells_misshapen
returns-else-marks-cells c = grind (arith, nat_tests)
