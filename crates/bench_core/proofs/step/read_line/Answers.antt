-- `bench_core::step::read_line` meets its contract. Assumes nothing.
use Rattle.bench_core.proofs.StepLaws.{line_by_lem}
use Rattle.trcf.specs.View.{lent}
use mathlib.Core.Path.{◌∙◌}
use Rattle.bench_core.proofs.step.read_line.Goals as goal

pub returns-in-WantsSet : goal.returns-in-WantsSet
returns-in-WantsSet c =
    let at-args = c.args in
    c.read_set.ensures (lent at-args.statistics.now at-args.last_shingled_input.now at-args.last_shingled_point.now at-args.previous_timestamps.now
    at-args.initial_values.now at-args.initial_timestamps.now) at-args.point.now ∙ line_by_lem at-args.b at-args.l
    (lent at-args.statistics.now at-args.last_shingled_input.now at-args.last_shingled_point.now at-args.previous_timestamps.now at-args.initial_values.now
    at-args.initial_timestamps.now) at-args.point.now at-args.out.now _ c.in-WantsSet.is

pub returns-in-WantsWeights : goal.returns-in-WantsWeights
returns-in-WantsWeights c =
    let at-args = c.args in
    c.read_second.ensures at-args.point.now ∙ line_by_lem at-args.b at-args.l
    (lent at-args.statistics.now at-args.last_shingled_input.now at-args.last_shingled_point.now at-args.previous_timestamps.now at-args.initial_values.now
    at-args.initial_timestamps.now) at-args.point.now at-args.out.now _ c.in-WantsWeights.is

pub returns-in-Running : goal.returns-in-Running
returns-in-Running c =
    let at-args = c.args in
    c.read_call.ensures ∙ line_by_lem at-args.b at-args.l (lent at-args.statistics.now at-args.last_shingled_input.now at-args.last_shingled_point.now
    at-args.previous_timestamps.now at-args.initial_values.now at-args.initial_timestamps.now) at-args.point.now at-args.out.now _ c.in-Running.is

pub returns-in-Ended : goal.returns-in-Ended
returns-in-Ended c =
    let at-args = c.args in
    line_by_lem at-args.b at-args.l (lent at-args.statistics.now at-args.last_shingled_input.now at-args.last_shingled_point.now at-args.previous_timestamps.now
    at-args.initial_values.now at-args.initial_timestamps.now) at-args.point.now at-args.out.now _ c.in-Ended.is
