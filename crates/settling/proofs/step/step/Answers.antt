-- `settling::step::step` meets its contract. Assumes nothing.
use mathlib.Core.Path.{sym, ap, ◌∙◌}
use Prim.Native.Nat.{ℕ}
use mathlib.Core.List.{List, [], ◌∷◌}
use lib.ListN.{replicate}
use lib.Seq.{length-take-le}
use lib.Ieee.{Float}
use Rattle.trcf.specs.Transformer.{zero32}
use Rattle.trcf.specs.View.{lent}
use Rattle.settling.specs.Steps.{reading_result_with}
use Rattle.settling.proofs.StepLaws.{take_replicate}
use Rattle.settling.proofs.step.step.Goals as goal

pub slice_bounds-turn_with-end-2 : goal.slice_bounds-turn_with-end-2
slice_bounds-turn_with-end-2 c =
    sym (length-take-le c.point_length-n.result (replicate 128 zero32) c.point_length-n.ensures.upper_bound)

pub returns : goal.returns
returns c =
    let a = c.args in
    let n = c.point_length-n in
    c.turn_with.ensures ∙ ap
    (λ (out : List Float). reading_result_with a.head (lent a.statistics.now a.last_shingled_input.now a.last_shingled_point.now a.previous_timestamps.now
    a.initial_values.now a.initial_timestamps.now) (a.value ∷ []) a.timestamp out)
    (take_replicate 128 n.result zero32 n.ensures.upper_bound ∙ ap (λ (k : ℕ). replicate k zero32) n.ensures.value)
