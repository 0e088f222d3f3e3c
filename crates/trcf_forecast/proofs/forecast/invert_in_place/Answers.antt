-- The newest input is the last part of the inputs. Assumes nothing.
use Rattle.trcf.proofs.LengthLaws.{passing, forecast_row_zero}
use native.Mathlib.Omega.{arith}
use mathlib.Core.Path.{ap, ◌∙◌}
use mathlib.Core.Bool.{◌&&◌}
use Prim.Native.Nat.{ℕ, ◌≤◌}
use lib.ListN.{length}
use lib.Ieee.{Float}
use mathlib.Core.List.{List}
use Rattle.ranges.specs.RangeVector.{held, unblocked}
use Rattle.trcf.specs.Types.{differences}
use Rattle.trcf.specs.Settings.{transformer}
use Rattle.trcf.specs.Transformer.{inverted_forecast}
use Rattle.trcf.specs.View.{settings_of}
use Rattle.trcf.proofs.ExtrapolationLaws.{input_within, newest_is, newest_length, inverted_free}
use Rattle.trcf_forecast.proofs.forecast.invert_in_place.Goals as goal

pub overflow_sub-newest : goal.overflow_sub-newest
overflow_sub-newest c =
    let A = c.args in
    let w = input_within A.head.transformer.input_length A.head.shingle_size c.requires.bounded.k_pos in
    omega (arith, c.requires.head_in_bounds.1)

pub returns-clause-after : goal.returns-clause-after
returns-clause-after c =
    let A = c.args in
    let P = c.requires in
    let d = A.head.transformer.input_length in
    let w = input_within d A.head.shingle_size P.bounded.k_pos in
    let n : d ≤ length A.inputs.now = omega (arith, P.head_in_bounds.1) in
    let v = held A.range.now in
    (passing _ c.invert_forecast_in_place.ensures.after
    (forecast_row_zero {t = A.head.transformer} (
      record { some = P.bounded.d_pos; few = P.bounded.d_few; room = omega (arith, P.head_in_bounds.0) },
      (
        newest_length A.inputs.now d n,
        (P.upper_len, ap (λ (k : ℕ). differences A.head.transformer.transform_method && unblocked k (length A.range.now.values.now)) (newest_length A.inputs.now d n) ∙ P.values_value),
      ),
    )))
    ∙ inverted_free A.head A.s.now _ v
    ∙ ap (λ (p : List Float). inverted_forecast (transformer (settings_of A.head) 0 A.s.now) p v) (newest_is A.inputs.now d n)
