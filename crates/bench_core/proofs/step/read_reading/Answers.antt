-- `bench_core::step::read_reading` meets its contract. Assumes nothing.
use Rattle.trcf.specs.View.{lent}
use Rattle.bench_core.proofs.StepLaws.{kept_of_lem, point_read, learn_read}
use Rattle.bench_core.proofs.step.read_reading.Goals as goal

pub returns-then-asks : goal.returns-then-asks
returns-then-asks c =
    let a = c.args in
    let k = c.kept-n in
    point_read a.b a.l (lent a.statistics.now a.last_shingled_input.now a.last_shingled_point.now a.previous_timestamps.now a.initial_values.now
    a.initial_timestamps.now) a.point.now a.out.now a.asks (kept_of_lem a.l k.result k.ensures.value)
    c.if-asks.true c.call_point-a.ensures c.answered.ensures.bench_value
    c.answered.ensures.length_value

pub returns : goal.returns
returns c =
    let a = c.args in
    let k = c.kept-n in
    learn_read a.b a.l (lent a.statistics.now a.last_shingled_input.now a.last_shingled_point.now a.previous_timestamps.now a.initial_values.now
    a.initial_timestamps.now) a.point.now a.out.now a.asks (kept_of_lem a.l k.result k.ensures.value) c.if-asks.false
    c.call_learn-a.ensures c.answered-2.ensures.bench_value c.answered-2.ensures.length_value
