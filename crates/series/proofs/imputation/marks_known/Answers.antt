-- `imputation::marks_known` meets its contract: `all` tests each mark. Assumes nothing.
use mathlib.Core.Bool.{true, false}
use mathlib.Core.Path.{◌≡◌, ◌∙◌}
use lib.Dec.{ltb}
use Rattle.std.proofs.Common.{ℕ, rules}
use Rattle.std.proofs.lemmas.Iterator.{YieldsList-from_slice, cases_from_all}
use Rattle.series.proofs.ImputationRows.{every_is, every_mark}
use Rattle.series.proofs.imputation.marks_known.Goals as goal

pub returns : goal.returns
returns c =
    let m = c.args.marks.now in
    every_is (λ (n : ℕ). ltb n 2) m c.all.result
    (cases_from_all _ _ _ (λ n. ltb n 2 ≡ true) (λ n. ltb n 2 ≡ false) c.all.ensures.ran (YieldsList-from_slice m cc) (λ x q k. search rules) (λ x q k. search rules))
    ∙ every_mark m
