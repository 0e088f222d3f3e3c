-- `imputation::impute` meets its contract: a refusal leaves the cells, else all channels are filled. Assumes nothing.
use native.Mathlib.Omega.{arith}
use Rattle.refusal.proofs.RefusalLaws.{is_numbered}
use Rattle.std.proofs.lemmas.Result.{err_from_is_err_and}
use Rattle.series.specs.Imputation.{impute_row, imputed, impute_of}
use Rattle.series.proofs.ImputationRows.{refused, done}
use Rattle.series.proofs.imputation.impute.Goals as goal

pub returns-in_err-impute_row : goal.returns-in_err-impute_row
unfolding impute_of
returns-in_err-impute_row c =
    let a = c.args in
    let p = err_from_is_err_and c.from_residual.result c.from_residual.ensures.1 in
    rw (p.1, p.2)
    (refused _ (impute_row a.d a.cells.now a.marks.now a.fixed.now) a.cells.now (imputed a.method a.d a.cells.now a.marks.now a.fixed.now)
    c.in_err-impute_row.ensures.value (λ z. absurd (omega (arith, is_numbered c.in_err-impute_row.field-0.0, z))))

pub returns : goal.returns
unfolding impute_of
returns c =
    let a = c.args in
    done (impute_row a.d a.cells.now a.marks.now a.fixed.now) a.cells.now (imputed a.method a.d a.cells.now a.marks.now a.fixed.now) _
    c.in_ok-impute_row.ensures.value c.impute_channels.ensures
