-- `settling::step::turn_with` meets its contract. Assumes nothing.
use mathlib.Core.Path.{◌∙◌}
use Rattle.trcf.specs.View.{lent}
use Rattle.settling.proofs.StepLaws.{turn_done, point_below}
use Rattle.settling.proofs.step.turn_with.Goals as goal

pub returns : goal.returns
returns c =
    let a = c.args in
    let e = c.every_right-table in
    let l = lent a.statistics.now a.last_shingled_input.now a.last_shingled_point.now a.previous_timestamps.now a.initial_values.now a.initial_timestamps.now in
    turn_done a.head l a.input.now a.timestamp a.point.now c.shingled_point-answer.result c.unwrap_or-p.result _ _
    (c.shingled_point-answer.ensures ∙ point_below e.result e.ensures a.head l a.input.now a.timestamp a.point.now) c.unwrap_or-p.ensures
    _ c.then_some.ensures _ _ c.learn-next.ensures _ c.last_of.ensures _ c.then_some-2.ensures
