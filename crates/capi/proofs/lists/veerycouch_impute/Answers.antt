-- `capi::lists::veerycouch_impute` meets its contract: by the rule of the number and the promise of the call. Assumes nothing.
use Rattle.capi.proofs.OtherLaws.{impute_no_rule, impute_done}
use Rattle.capi.proofs.lists.veerycouch_impute.Goals as goal

pub returns-in-Err : goal.returns-in-Err
returns-in-Err c =
    let a = c.args in
    let k = c.in-Err.ensures in
    rw c.from.ensures (impute_no_rule a.d a.cells.now a.marks.now a.fixed.now a.method c.in-Err.refusal k.0 k.1)

pub returns : goal.returns
returns c =
    let a = c.args in
    rw c.row_of.ensures (impute_done a.d a.cells.now a.marks.now a.fixed.now a.method c.in-Ok.rule c.in-Ok.ensures c.impute.ensures)
