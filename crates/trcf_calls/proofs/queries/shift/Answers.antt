-- `trcf_calls::queries::shift` meets its contract: by its callees' promises and the laws of outcomes. Assumes nothing.
use Rattle.trcf.proofs.LengthLaws.{opened, output_fits_lem, statistics_known}
use Rattle.trcf.proofs.OutcomeLaws.{write_goes, shift_row}
use Rattle.trcf.specs.Preprocessor.{shift_of}
use Rattle.trcf.specs.View.{view, lent_by}
use Rattle.trcf.specs.Calls.{shift}
use mathlib.Core.Path.{refl, sym, ◌∙◌}
use lib.Seq.{length-take-le}
use Rattle.trcf_calls.proofs.WriteLaws.{write_refused_by}
use Rattle.trcf_calls.proofs.queries.shift.Goals as goal

pub returns-in_err-write_row : goal.returns-in_err-write_row
returns-in_err-write_row c =
    let a = c.args in
    let l = lent_by a.lists in
    write_refused_by a.head l (shift a.output.now) shift_of a.output.now _ _ c.from_residual.ensures.1 (c.in_err-write_row.ensures.value ∙ shift_row a.head l a.output.now)

pub slice_bounds-write_shift-end : goal.slice_bounds-write_shift-end
slice_bounds-write_shift-end c =
    let k = c.in_ok-write_row.ensures.ready in
    let e = statistics_known c.statistics_length.ensures k.bounded.d_few in
    sym (length-take-le c.statistics_length.result c.args.lists.statistics.now (rw e k.fitted.roomy.in_statistics))

pub returns : goal.returns
unfolding view shift_of
returns c =
    let a = c.args in
    let l = lent_by a.lists in
    let k = c.in_ok-write_row.ensures in
    let e = statistics_known c.statistics_length.ensures k.ready.bounded.d_few in
    write_goes a.head l (shift a.output.now) shift_of a.output.now 0 (k.value ∙ shift_row a.head l a.output.now) refl _ _
    (opened _ (rw e at c.write_shift.ensures) (output_fits_lem (k.ready.bounded, (length-take-le _ _ k.ready.fitted.roomy.in_statistics, k.head_in_bounds)))) refl
