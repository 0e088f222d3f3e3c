-- `imputation::line` meets its contract: the definition's operations in their order. Assumes nothing.
use Rattle.series.specs.Imputation.{interpolated}
use Rattle.series.proofs.imputation.line.Goals as goal

pub returns : goal.returns
unfolding interpolated
returns c = rw (c.u64_to_f32.ensures, c.u64_to_f32-2.ensures)
