-- `capi::counts::veerycouch_strandings` meets its contract: by the promise of the count. Assumes nothing.
use mathlib.Core.Path.{refl}
use Rattle.trcf.proofs.NumberLaws.{number_zero}
use Rattle.capi.proofs.CallLaws.{kept}
use Rattle.capi.proofs.OtherLaws.{strandings_done}
use Rattle.capi.proofs.counts.veerycouch_strandings.Goals as goal

pub returns-in-Ok : goal.returns-in-Ok
returns-in-Ok c =
    let a = c.args in
    strandings_done a.start a.calls a.waiting.now a.drained.now a.stranded.now c.in-Ok.ensures refl refl refl

pub returns-in-Err : goal.returns-in-Err
returns-in-Err c =
    let a = c.args in
    let z = number_zero c.in-Err.refusal in
    rw c.from.ensures (strandings_done a.start a.calls a.waiting.now a.drained.now a.stranded.now c.in-Err.ensures (kept _ _ _ z) (kept _ _ _ z) (kept _ _ _ z))
