-- `capi::statistic::veerycouch_corrected` meets its contract: by what `corrected` answers. Assumes nothing.
use mathlib.Core.Path.{refl}
use Rattle.common.specs.Deviation.{statistic}
use Rattle.capi.proofs.StatisticLaws.{corrected_done, corrected_refused}
use Rattle.capi.proofs.statistic.veerycouch_corrected.Goals as goal

pub returns-in-Ok : goal.returns-in-Ok
returns-in-Ok c =
    let a = c.args in
    rw c.row_of.ensures (corrected_done (statistic a.discount a.weight a.sum a.sum_squared a.count) a.wrong a.right a.output.now c.in-Ok.ensures
    refl c.tell_statistic.ensures)

pub returns-in-Err : goal.returns-in-Err
returns-in-Err c =
    let a = c.args in
    rw c.from.ensures (corrected_refused (statistic a.discount a.weight a.sum a.sum_squared a.count) a.wrong a.right a.output.now c.in-Err.ensures refl)
