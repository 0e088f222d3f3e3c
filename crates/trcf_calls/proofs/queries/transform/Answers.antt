-- `trcf_calls::queries::transform` meets its contract: by its callees' promises and the laws of outcomes. Assumes nothing.
use Rattle.trcf.proofs.LengthLaws.{opened, transform_fits_lem, statistics_known}
use Rattle.trcf.proofs.OutcomeLaws.{write_goes}
use Prim.Native.Nat.{ℕ, ◌*◌}
use Rattle.refusal.specs.Lent.{over}
use Rattle.trcf.specs.Lists.{last_n}
use Rattle.trcf.specs.Preprocessor.{facts, time_base, preceding, reading, transformed_after, transform_of, statistics_length}
use Rattle.trcf.specs.View.{view, lent_by, settings_of, time_base_of}
use Rattle.trcf.specs.Calls.{transform, newest}
use mathlib.Core.Path.{refl, sym, ap, ◌∙◌}
use lib.ListN.{take}
use lib.Seq.{length-take-le}
use Rattle.trcf_calls.proofs.WriteLaws.{write_refused_by}
use Rattle.trcf_calls.proofs.queries.transform.Goals as goal

pub returns-in_err-transform_row : goal.returns-in_err-transform_row
returns-in_err-transform_row c =
    let a = c.args in
    let l = lent_by a.lists in
    write_refused_by a.head l (transform a.input.now a.timestamp a.output.now) (transform_of (reading a.input.now a.timestamp)) a.output.now _ _ c.from_residual.ensures.1
    c.in_err-transform_row.ensures.value

pub slice_bounds-write_transform-end : goal.slice_bounds-write_transform-end
slice_bounds-write_transform-end c =
    let k = c.in_ok-transform_row.ensures.ready in
    let e = statistics_known c.statistics_length.ensures k.bounded.d_few in
    sym (length-take-le c.statistics_length.result c.args.lists.statistics.now (rw e k.fitted.roomy.in_statistics))

pub returns : goal.returns
unfolding view preceding time_base time_base_of newest facts
returns c =
    let a = c.args in
    let h = a.head in
    let l = lent_by a.lists in
    let k = c.in_ok-transform_row.ensures in
    let e = statistics_known c.statistics_length.ensures k.ready.bounded.d_few in
    let f = k.ready.fitted.roomy in
    write_goes h l (transform a.input.now a.timestamp a.output.now) (transform_of (reading a.input.now a.timestamp)) a.output.now 0 k.value refl _ _
    (opened _ (rw e at c.write_transform.ensures)
    (transform_fits_lem (k.ready.bounded, (length-take-le _ _ f.in_statistics, (length-take-le _ _ f.in_input, (k.input_len, k.head_in_bounds)))))
    ∙ ap
    (λ (n : ℕ). over a.output.now
    (transformed_after (settings_of h) (take (statistics_length (settings_of h)) a.lists.statistics.now) h.values_seen
    (reading (last_n h.transformer.input_length (take (h.transformer.input_length * h.shingle_size) a.lists.last_shingled_input.now)) n)
    (reading a.input.now a.timestamp))) c.time_base-base.ensures) refl
