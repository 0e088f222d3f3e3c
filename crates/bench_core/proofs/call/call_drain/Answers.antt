use mathlib.Core.Path.{◌∙◌}
use Rattle.bench_core.proofs.TurnLaws.{drain_accepted, drain_refused}
use Rattle.trcf.specs.View.{lent}
use Rattle.bench_core.proofs.call.call_drain.Goals as goal

pub returns-in-Ok : goal.returns-in-Ok
returns-in-Ok c =
    let a = c.args in
    λ y. c.accepted.ensures _ y ∙ drain_accepted c.every_right.result c.every_right.ensures a.head a.given
    (lent a.statistics.now a.last_shingled_input.now a.last_shingled_point.now a.previous_timestamps.now a.initial_values.now a.initial_timestamps.now) a.out.now y c.in-Ok.next c.in-Ok.ensures

pub returns-in-Err : goal.returns-in-Err
returns-in-Err c =
    let a = c.args in
    λ y. c.refused.ensures _ y ∙ drain_refused c.every_right.result c.every_right.ensures a.head a.given
    (lent a.statistics.now a.last_shingled_input.now a.last_shingled_point.now a.previous_timestamps.now a.initial_values.now a.initial_timestamps.now) a.out.now y c.in-Err.refusal c.in-Err.ensures
