-- `settling::step::learn` meets its contract. Assumes nothing.
use mathlib.Core.Path.{ap, ◌∙◌}
use Rattle.std.specs.Prelude.{is_some}
use Rattle.trcf.specs.View.{lent}
use Rattle.trcf_learn.specs.Given.{list_in}
use Rattle.settling.specs.Steps.{learned_result, learning}
use Rattle.settling.proofs.StepLaws.{learn_below}
use Rattle.settling.proofs.step.learn.Goals as goal

pub returns-in-Err : goal.returns-in-Err
returns-in-Err c =
    let e = c.every_right-table in
    let a = c.args in
    ap learned_result
    (c.in-Err.ensures
    ∙ learn_below e.result e.ensures a.head
    (lent a.statistics.now a.last_shingled_input.now a.last_shingled_point.now a.previous_timestamps.now a.initial_values.now a.initial_timestamps.now)
    (learning a.input.now a.timestamp (is_some a.point) (list_in a.point)))
