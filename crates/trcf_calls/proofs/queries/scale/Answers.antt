-- `trcf_calls::queries::scale` meets its contract: by its callees' promises and the laws of outcomes. Assumes nothing.
use Rattle.trcf.proofs.LengthLaws.{opened, output_fits_lem, statistics_known}
use Rattle.trcf.proofs.OutcomeLaws.{write_goes}
use Rattle.trcf.specs.Preprocessor.{scale_of}
use Rattle.trcf.specs.View.{view, lent_by}
use Rattle.trcf.specs.Calls.{scale}
use mathlib.Core.Path.{refl, sym}
use lib.Seq.{length-take-le}
use Rattle.trcf_calls.proofs.WriteLaws.{write_refused_by}
use Rattle.trcf_calls.proofs.queries.scale.Goals as goal

pub returns-in_err-write_row : goal.returns-in_err-write_row
returns-in_err-write_row c =
    let a = c.args in
    let l = lent_by a.lists in
    write_refused_by a.head l (scale a.output.now) scale_of a.output.now _ _ c.from_residual.ensures.1 c.in_err-write_row.ensures.value

pub slice_bounds-write_scale-end : goal.slice_bounds-write_scale-end
slice_bounds-write_scale-end c =
    let k = c.in_ok-write_row.ensures.ready in
    let e = statistics_known c.statistics_length.ensures k.bounded.d_few in
    sym (length-take-le c.statistics_length.result c.args.lists.statistics.now (rw e k.fitted.roomy.in_statistics))

pub returns : goal.returns
unfolding view scale_of
returns c =
    let a = c.args in
    let l = lent_by a.lists in
    let k = c.in_ok-write_row.ensures in
    let e = statistics_known c.statistics_length.ensures k.ready.bounded.d_few in
    write_goes a.head l (scale a.output.now) scale_of a.output.now 0 (k.value) refl _ _
    (opened _ (rw e at c.write_scale.ensures) (output_fits_lem (k.ready.bounded, (length-take-le _ _ k.ready.fitted.roomy.in_statistics, k.head_in_bounds)))) refl
