-- `bench_core::step::step` meets its contract. Assumes nothing.
use Rattle.bench_core.proofs.StepLaws.{step_short, step_none, step_tab, step_line}
use Rattle.trcf.specs.View.{lent}
use Rattle.bench_core.proofs.step.step.Goals as goal

pub returns-then-out-lt-ROOM : goal.returns-then-out-lt-ROOM
returns-then-out-lt-ROOM c =
    let a = c.args in
    step_short a.b
    (lent a.statistics.now a.last_shingled_input.now a.last_shingled_point.now a.previous_timestamps.now a.initial_values.now a.initial_timestamps.now) a.point.now a.text.now a.out.now
    c.if-out-lt-ROOM.true

pub returns-then-n-text : goal.returns-then-n-text
returns-then-n-text c =
    let e = c.cell_end-n in
    let a = c.args in
    step_none a.b
    (lent a.statistics.now a.last_shingled_input.now a.last_shingled_point.now a.previous_timestamps.now a.initial_values.now a.initial_timestamps.now) a.point.now a.text.now a.out.now
    c.if-out-lt-ROOM.false e.result e.ensures.value c.if-n-text.true

pub returns-then-text-n-eq9 : goal.returns-then-text-n-eq9
returns-then-text-n-eq9 c =
    let a = c.args in
    let e = c.cell_end-n in
    let k = c.cell_of-k in
    step_tab a.b
    (lent a.statistics.now a.last_shingled_input.now a.last_shingled_point.now a.previous_timestamps.now a.initial_values.now a.initial_timestamps.now) a.point.now a.text.now a.out.now
    c.if-out-lt-ROOM.false
    e.result e.ensures.value c.if-n-text.false k.result k.ensures.value c.cell-l.ensures c.if-text-n-eq9.true c.with_line.ensures

pub returns : goal.returns
returns c =
    let a = c.args in
    let e = c.cell_end-n in
    let k = c.cell_of-k in
    step_line a.b
    (lent a.statistics.now a.last_shingled_input.now a.last_shingled_point.now a.previous_timestamps.now a.initial_values.now a.initial_timestamps.now) a.point.now a.text.now a.out.now
    c.if-out-lt-ROOM.false
    e.result e.ensures.value c.if-n-text.false k.result k.ensures.value c.cell-l.ensures c.if-text-n-eq9.false c.read_line-p.ensures
