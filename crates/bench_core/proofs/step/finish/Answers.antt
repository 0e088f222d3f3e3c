-- `bench_core::step::finish` meets its contract. Assumes nothing.
use Rattle.bench_core.proofs.StepLaws.{finish_short, finish_done}
use Rattle.bench_core.proofs.step.finish.Goals as goal

pub returns-then-out-lt-ROOM : goal.returns-then-out-lt-ROOM
returns-then-out-lt-ROOM c =
    let a = c.args in
    finish_short a.b a.rest.now a.out.now c.if-out-lt-ROOM.true

pub returns : goal.returns
returns c =
    let a = c.args in
    finish_done a.b a.rest.now a.out.now c.if-out-lt-ROOM.false c.finished_by.ensures
