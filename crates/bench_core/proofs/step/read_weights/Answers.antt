-- `bench_core::step::read_weights` meets its contract. Assumes nothing.
use Rattle.bench_core.proofs.StepLaws.{kept_of_lem, weights_refused, weights_built}
use Rattle.trcf.specs.View.{lent}
use Rattle.bench_core.proofs.step.read_weights.Goals as goal

pub returns-in-Ok : goal.returns-in-Ok
returns-in-Ok c =
    let a = c.args in
    let k = c.kept-n in
    λ y. weights_built a.b a.out.now a.l (lent a.statistics.now a.last_shingled_input.now a.last_shingled_point.now a.previous_timestamps.now a.initial_values.now a.initial_timestamps.now) y
    (kept_of_lem a.l k.result k.ensures.value) c.in-Ok.head c.in-Ok.ensures c.ready.ensures

pub returns-in-Err : goal.returns-in-Err
returns-in-Err c =
    let a = c.args in
    let k = c.kept-n in
    λ y. weights_refused a.b a.out.now a.l (lent a.statistics.now a.last_shingled_input.now a.last_shingled_point.now a.previous_timestamps.now a.initial_values.now a.initial_timestamps.now) y
    (kept_of_lem a.l k.result k.ensures.value) c.in-Err.refusal c.in-Err.ensures c.ended.ensures
