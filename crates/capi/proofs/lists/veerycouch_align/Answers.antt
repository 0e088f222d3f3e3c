-- `capi::lists::veerycouch_align` meets its contract: by the promise of the call. Assumes nothing.
use mathlib.Core.Path.{refl}
use Rattle.series.specs.Alignment.{readings, outputs}
use Rattle.trcf.proofs.NumberLaws.{number_zero}
use Rattle.capi.proofs.CallLaws.{kept}
use Rattle.capi.proofs.OtherLaws.{align_done}
use Rattle.capi.proofs.lists.veerycouch_align.Goals as goal

pub returns-in-Ok : goal.returns-in-Ok
returns-in-Ok c =
    let a = c.args in
    align_done a.d (readings a.left.now a.left_times.now) (readings a.right.now a.right_times.now) a.tolerance a.pairs.now
    (outputs a.left_out.now a.right_out.now a.gaps_out.now) c.in-Ok.ensures refl

pub returns-in-Err : goal.returns-in-Err
returns-in-Err c =
    let a = c.args in
    rw c.from.ensures (align_done a.d (readings a.left.now a.left_times.now) (readings a.right.now a.right_times.now) a.tolerance a.pairs.now
    (outputs a.left_out.now a.right_out.now a.gaps_out.now) c.in-Err.ensures (kept _ _ _ (number_zero c.in-Err.refusal)))
