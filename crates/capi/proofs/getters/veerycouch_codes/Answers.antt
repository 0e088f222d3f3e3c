-- `capi::getters::veerycouch_codes` meets its contract: by the promises of the words and of the codes told. Assumes nothing.
use mathlib.Core.Path.{◌≡◌, refl}
use lib.ListN.{length, take}
use Rattle.capi.proofs.HeadLaws.{read_codes}
use Rattle.capi.proofs.CallLaws.{opened, refused_row, not_zero, codes_refused, codes_done}
use Rattle.capi.proofs.getters.veerycouch_codes.Goals as goal

pub returns-in-Err : goal.returns-in-Err
returns-in-Err c =
    let a = c.args in
    codes_refused a.table.now a.role a.head.now
    (refused_row c.in-Err.refusal a.head.now c.from.ensures c.may.ensures c.in-Err.ensures.row_value) a.output.now (not_zero c.in-Err.refusal c.from.ensures)

pub returns : goal.returns
returns c =
    let a = c.args in
    let u = c.used-n in
    let v = c.in-Ok.before.codes in
    let z : length v ≡ 16 = read_codes c.in-Ok.ensures.head_read in
    rw c.row_of.ensures (codes_done a.table.now a.role a.head.now refl (λ e. c.in-Ok.ensures.head_read) (opened a.head.now c.may.ensures c.in-Ok.ensures.row_value) (take u.result v) a.output.now
    (u.ensures.by_index v z) c.tell_codes.ensures)
