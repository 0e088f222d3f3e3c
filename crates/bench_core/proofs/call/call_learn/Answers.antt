use Prim.Native.Nat.{ℕ}
use mathlib.Core.Path.{ap, ◌∙◌}
use lib.ListN.{take}
use Rattle.std.proofs.lemmas.List.{take_min}
use Rattle.trcf.specs.View.{lent}
use Rattle.bench_core.specs.Bench.{dimension_of}
use Rattle.bench_core.proofs.TurnLaws.{same_learn, learn_accepted, learn_refused}
use Rattle.bench_core.proofs.call.call_learn.Goals as goal

pub returns-in-Ok : goal.returns-in-Ok
unfolding dimension_of
returns-in-Ok c =
    let a = c.args in
    let w = ap (λ (i : ℕ). take i a.point.now) c.min-n.ensures ∙ take_min c.get_dimension.result a.point.now ∙ ap (λ (i : ℕ). take i a.point.now) c.get_dimension.ensures in
    c.accepted.ensures _ a.point.now ∙ learn_accepted c.every_right.result c.every_right.ensures a.head a.given
    (lent a.statistics.now a.last_shingled_input.now a.last_shingled_point.now a.previous_timestamps.now a.initial_values.now a.initial_timestamps.now) a.out.now
    a.input.now a.timestamp a.point.now _ (same_learn a.input.now a.timestamp a.given c.then_some.result _ _ _ _ _ c.then_some.ensures w) c.in-Ok.next c.in-Ok.ensures

pub returns-in-Err : goal.returns-in-Err
unfolding dimension_of
returns-in-Err c =
    let a = c.args in
    let w = ap (λ (i : ℕ). take i a.point.now) c.min-n.ensures ∙ take_min c.get_dimension.result a.point.now ∙ ap (λ (i : ℕ). take i a.point.now) c.get_dimension.ensures in
    c.refused.ensures _ a.point.now ∙ learn_refused c.every_right.result c.every_right.ensures a.head a.given
    (lent a.statistics.now a.last_shingled_input.now a.last_shingled_point.now a.previous_timestamps.now a.initial_values.now a.initial_timestamps.now) a.out.now
    a.input.now a.timestamp a.point.now _ (same_learn a.input.now a.timestamp a.given c.then_some.result _ _ _ _ _ c.then_some.ensures w) c.in-Err.refusal c.in-Err.ensures
