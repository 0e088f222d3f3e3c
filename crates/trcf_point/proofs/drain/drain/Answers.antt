-- `trcf_point::drain::drain` meets its contract: by its callees' promises and the laws of outcomes. Assumes nothing.
use mathlib.Core.Path.{refl, sym, ◌∙◌}
use Rattle.trcf.specs.View.{lent}
use Rattle.trcf.proofs.NumberLaws.{head_err, number_zero}
use Rattle.trcf.proofs.RowLaws.{drain_room}
use Rattle.trcf.proofs.WayLaws.{drain_stays, drain_goes}
use Rattle.trcf_point.proofs.drain.drain.Goals as goal

pub returns-in_err-drain_row : goal.returns-in_err-drain_row
returns-in_err-drain_row c =
    let a = c.args in
    let l = lent a.statistics.now a.last_shingled_input.now a.last_shingled_point.now a.previous_timestamps.now a.initial_values.now a.initial_timestamps.now in
    let e = c.in_err-drain_row in
    head_err _ a.head l _ c.from_residual.ensures.1 ∙ drain_stays a.head l _ e.ensures.value (number_zero _)

pub drain_due-requires : goal.drain_due-requires
drain_due-requires c =
    let a = c.args in
    let l = lent a.statistics.now a.last_shingled_input.now a.last_shingled_point.now a.previous_timestamps.now a.initial_values.now a.initial_timestamps.now in
    let o = c.in_ok-drain_row.ensures in
    record { ready = o.ready; initial_timestamps_value = drain_room a.head l (sym o.value) }

pub returns : goal.returns
returns c =
    let a = c.args in
    let l = lent a.statistics.now a.last_shingled_input.now a.last_shingled_point.now a.previous_timestamps.now a.initial_values.now a.initial_timestamps.now in
    drain_goes a.head l 0 c.in_ok-drain_row.ensures.value refl _ c.drain_due.ensures.initial_timestamps_after
