-- `imputation::present_finite` meets its contract: `all` tests each cell with its mark. Assumes nothing.
use mathlib.Core.Bool.{true, false}
use mathlib.Core.Path.{◌≡◌, ◌∙◌}
use Rattle.std.specs.List.{zip}
use Rattle.std.proofs.Common.{rules}
use Rattle.std.proofs.lemmas.Iterator.{YieldsList-from_slice, YieldsList-from_zip, cases_from_all}
use Rattle.series.proofs.ImputationRows.{every_is, finite_is, fits_mark, every_present}
use Rattle.series.proofs.imputation.present_finite.Goals as goal

pub returns : goal.returns
returns c =
    let x = c.args.cells.now in
    let m = c.args.marks.now in
    let pairs = YieldsList-from_zip {s = c.zip.result} (YieldsList-from_slice {s = c.zip.result.a} x cc) (YieldsList-from_slice {s = c.zip.result.b} m (search rules)) in
    every_is fits_mark (zip x m) c.all.result
    (cases_from_all c.all.new.self _ _ (λ p. fits_mark p ≡ true) (λ p. fits_mark p ≡ false) c.all.ensures.ran
    pairs (λ x q k. search (rules, finite_is)) (λ x q k. search (rules, finite_is)))
    ∙ every_present x m
