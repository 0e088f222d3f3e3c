-- `capi::outputs::veerycouch_invert_extrapolation` meets its contract: by the promises of the words and of the call. Assumes nothing.
use Prim.Native.Nat.{ℕ}
use mathlib.Core.Path.{◌≡◌, refl, sym, ◌∙◌}
use Rattle.ranges.specs.RangeVector.{Ranges, ranges}
use Rattle.ranges.proofs.RangeSteps.{all_three}
use Rattle.trcf.specs.Extrapolation.{extrapolation, forecast}
use Rattle.capi.proofs.CallLaws.{opened, refused_row, not_zero, extrapolation_refused, extrapolation_done}
use Rattle.capi.proofs.outputs.veerycouch_invert_extrapolation.Goals as goal

pub returns-in-Err : goal.returns-in-Err
returns-in-Err c =
    let a = c.args in
    extrapolation_refused a.table.now a.role a.head.now (refused_row c.in-Err.refusal a.head.now c.from.ensures c.may.ensures c.in-Err.ensures.row_value) a.statistics.now
    a.last_shingled_input.now a.previous_timestamps.now (forecast (ranges a.values.now a.upper.now a.lower.now)
    (ranges a.values_out.now a.upper_out.now a.lower_out.now) (ranges a.times_out.now a.times_upper_out.now a.times_lower_out.now)) (not_zero c.in-Err.refusal c.from.ensures)

-- the lists that the ranges were made of hold what the ranges hold
tied : (n : ℕ) {f f' o o' t t' : Ranges} → f ≡ f' → o ≡ o' → t ≡ t' → extrapolation n (forecast f o t) ≡ extrapolation n (forecast f' o' t')
tied n p q r = λ j. extrapolation n (forecast (p j) (q j) (r j))

pub returns : goal.returns
returns c =
    let a = c.args in
    let L = c.invert_extrapolation.ensures.loans in
    tied c.row_of.result
    (all_three (c.values-1.given.1.1 (sym L.0.values)) (c.upper-1.given.1.1 (sym L.0.upper)) (c.lower-1.given.1.1 (sym L.0.lower)))
    (all_three (c.values_out-1.given.1.1 (sym L.1.values)) (c.upper_out-1.given.1.1 (sym L.1.upper)) (c.lower_out-1.given.1.1 (sym L.1.lower)))
    (all_three (c.times_out-1.given.1.1 (sym L.2.values)) (c.times_upper_out-1.given.1.1 (sym L.2.upper)) (c.times_lower_out-1.given.1.1 (sym L.2.lower)))
    ∙ rw c.row_of.ensures (extrapolation_done a.table.now a.role a.head.now refl (λ e. c.in-Ok.ensures.head_read)
    (opened a.head.now c.may.ensures c.in-Ok.ensures.row_value)
    a.statistics.now a.last_shingled_input.now a.previous_timestamps.now
    (forecast (ranges a.values.now a.upper.now a.lower.now)
    (ranges a.values_out.now a.upper_out.now a.lower_out.now) (ranges a.times_out.now a.times_upper_out.now a.times_lower_out.now)) c.invert_extrapolation.ensures.after)
