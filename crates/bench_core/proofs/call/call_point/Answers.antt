use mathlib.Core.Path.{◌∙◌}
use Rattle.bench_core.proofs.TurnLaws.{point_refused, point_absent, point_given_lem}
use Rattle.trcf.specs.View.{lent}
use Rattle.bench_core.proofs.call.call_point.Goals as goal

pub returns-in-Ok : goal.returns-in-Ok
returns-in-Ok c =
    let a = c.args in
    point_given_lem c.every_right.result c.every_right.ensures a.head a.given
    (lent a.statistics.now a.last_shingled_input.now a.last_shingled_point.now a.previous_timestamps.now a.initial_values.now a.initial_timestamps.now) a.out.now
    a.input.now a.timestamp a.point.now c.in-Ok.next.head c.in-Ok.ensures c.if-next.true c.print_point.ensures

pub returns-in-Ok-2 : goal.returns-in-Ok-2
returns-in-Ok-2 c =
    let a = c.args in
    point_absent c.every_right.result c.every_right.ensures a.head a.given
    (lent a.statistics.now a.last_shingled_input.now a.last_shingled_point.now a.previous_timestamps.now a.initial_values.now a.initial_timestamps.now) a.out.now
    a.input.now a.timestamp a.point.now c.in-Ok-2.next.head c.in-Ok-2.ensures (cc) c.print_text.ensures

pub returns-in-Err : goal.returns-in-Err
returns-in-Err c =
    let a = c.args in
    c.refused.ensures _ _ ∙ point_refused c.every_right.result c.every_right.ensures a.head a.given
    (lent a.statistics.now a.last_shingled_input.now a.last_shingled_point.now a.previous_timestamps.now a.initial_values.now a.initial_timestamps.now) a.out.now
    a.input.now a.timestamp a.point.now c.in-Err.refusal c.in-Err.ensures
