-- Refused by its row, or turned back. Assumes nothing.
use mathlib.Core.Path.{refl, ◌∙◌}
use Rattle.refusal.proofs.RefusalLaws.{handed_on}
use Rattle.ranges.specs.RangeVector.{held}
use Rattle.trcf.specs.Extrapolation.{forecast}
use Rattle.trcf.proofs.ExtrapolationLaws.{refused_is, done_is}
use Rattle.trcf.proofs.NumberLaws.{handed_not}
use Rattle.trcf_forecast.proofs.forecast.invert_extrapolation.Goals as goal

pub returns-in_err-extrapolation_row-clause-after : goal.returns-in_err-extrapolation_row-clause-after
returns-in_err-extrapolation_row-clause-after c =
    let A = c.args in
    let h = c.from_residual.ensures.1 in
    refused_is A.head A.statistics.now A.last_shingled_input.now A.previous_timestamps.now
    (forecast (held A.range.now) (held A.range_out.now)
    (held A.times_out.now))
    _ (handed_on _ _ h ∙ c.in_err-extrapolation_row.ensures.value) (handed_not _ _ h)

pub invert_accepted-requires : goal.invert_accepted-requires
invert_accepted-requires c = c.in_ok-extrapolation_row.ensures.invertible

pub returns-clause-after : goal.returns-clause-after
returns-clause-after c =
    let A = c.args in
    done_is A.head A.statistics.now A.last_shingled_input.now A.previous_timestamps.now
    (forecast (held A.range.now) (held A.range_out.now)
    (held A.times_out.now))
    0 _ c.in_ok-extrapolation_row.ensures.value refl c.invert_accepted.ensures.after
