-- `imputation::all_finite` meets its contract: `all` tests each element. Assumes nothing.
use mathlib.Core.Bool.{true, false}
use mathlib.Core.Path.{◌≡◌, ◌∙◌}
use Rattle.std.specs.Float.{float_is_finite}
use Rattle.std.proofs.Common.{rules}
use Rattle.std.proofs.lemmas.Iterator.{YieldsList-from_slice, cases_from_all}
use Rattle.series.proofs.ImputationRows.{every_is, every_finite}
use Rattle.series.proofs.imputation.all_finite.Goals as goal

pub returns : goal.returns
returns c =
    let x = c.args.x.now in
    every_is float_is_finite x c.all.result
    (cases_from_all _ _ _ (λ y. float_is_finite y ≡ true) (λ y. float_is_finite y ≡ false) c.all.ensures.ran (YieldsList-from_slice x cc) (λ x q k. search rules) (λ x q k. search rules))
    ∙ every_finite x
