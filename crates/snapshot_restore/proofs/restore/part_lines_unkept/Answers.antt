-- `snapshot_restore::restore::part_lines_unkept` meets its contract. Assumes nothing.
use Prim.Native.Nat.{◌+◌, ◌*◌}
use native.Mathlib.Omega.{arith}
use mathlib.Core.Path.{sym, ◌∙◌}
use lib.ListN.{drop}
use lib.Seq.{length-take-le}
use Rattle.trcf.specs.Types.{augments}
use Rattle.trcf.specs.View.{settings_of}
use Rattle.snapshot.specs.Steps.Runs.{counts_in}
use Rattle.snapshot.proofs.SaveLaws.{few, few_wide, wide_of}
use Rattle.snapshot.proofs.BodyLaws.{parts_of_lem, unkept_of, dimension_is}
use Rattle.snapshot_restore.proofs.JudgedLaws.{few_lines}
use Rattle.snapshot_restore.proofs.restore.part_lines_unkept.Goals as goal

pub overflow_add-w : goal.overflow_add-w
overflow_add-w c =
    let w = wide_of (augments c.args.head.forest_mode) c.time_width.result c.time_width.ensures in
    omega (arith, w, c.requires.input_length_bound)

pub slice_bounds-part_lines-end : goal.slice_bounds-part_lines-end
slice_bounds-part_lines-end c =
    sym (length-take-le ((5 * c.args.head.transformer.input_length + 5) * 3) _ (omega (arith, c.requires.input_length_bound)))

pub overflow_mul-input : goal.overflow_mul-input
overflow_mul-input c =
    let args = c.args in
    let pre = c.requires in
    let h = few args.head.transformer.input_length args.head.shingle_size pre.input_length_bound pre.shingle_size_bound in omega (arith, h)

pub slice_bounds-input-end : goal.slice_bounds-input-end
slice_bounds-input-end c =
    let args = c.args in
    let pre = c.requires in
    few args.head.transformer.input_length args.head.shingle_size pre.input_length_bound pre.shingle_size_bound

pub slice_bounds-part_lines-end-2 : goal.slice_bounds-part_lines-end-2
slice_bounds-part_lines-end-2 c =
    let args = c.args in
    let pre = c.requires in
    sym (length-take-le (args.head.transformer.input_length * args.head.shingle_size) _ (few args.head.transformer.input_length args.head.shingle_size pre.input_length_bound pre.shingle_size_bound))

pub overflow_mul-point : goal.overflow_mul-point
overflow_mul-point c =
    let args = c.args in
    let pre = c.requires in
    let time-width-at = c.time_width in
    let w = wide_of (augments args.head.forest_mode) time-width-at.result time-width-at.ensures in
    let h = few_wide (args.head.transformer.input_length + time-width-at.result) args.head.shingle_size (omega (arith, w, pre.input_length_bound)) pre.shingle_size_bound in
    omega (arith, h)

pub slice_bounds-point-end : goal.slice_bounds-point-end
slice_bounds-point-end c =
    let args = c.args in
    let pre = c.requires in
    let time-width-at = c.time_width in
    let w = wide_of (augments args.head.forest_mode) time-width-at.result time-width-at.ensures in
    let h = few_wide (args.head.transformer.input_length + time-width-at.result) args.head.shingle_size (omega (arith, w, pre.input_length_bound)) pre.shingle_size_bound in
    h

pub slice_bounds-part_lines-end-3 : goal.slice_bounds-part_lines-end-3
slice_bounds-part_lines-end-3 c =
    let args = c.args in
    let pre = c.requires in
    let time-width-at = c.time_width in
    let w = wide_of (augments args.head.forest_mode) time-width-at.result time-width-at.ensures in
    let h = few_wide (args.head.transformer.input_length + time-width-at.result) args.head.shingle_size (omega (arith, w, pre.input_length_bound)) pre.shingle_size_bound in
    sym (length-take-le ((args.head.transformer.input_length + time-width-at.result) * args.head.shingle_size) _ h)

pub slice_bounds-part_lines-end-4 : goal.slice_bounds-part_lines-end-4
slice_bounds-part_lines-end-4 c =
    sym (length-take-le c.args.head.shingle_size _ c.requires.shingle_size_bound)

pub part_lines-requires : goal.part_lines-requires
part_lines-requires c =
    let pre = c.requires in
    record { statistics_len = length-take-le ((5 * c.args.head.transformer.input_length + 5) * 3) _ (omega (arith, pre.input_length_bound)); n_bound = omega (arith, pre.input_length_bound) }

pub returns : goal.returns
returns c =
    let args = c.args in
    let pre = c.requires in
    let time-width-at = c.time_width in
    let a = args in
    let s = settings_of a.head in
    let P = c.part_lines in
    let w = wide_of (augments args.head.forest_mode) time-width-at.result time-width-at.ensures in record {
      text_value = unkept_of P.result _ a.text.now _
          (parts_of_lem s (counts_in a.head) (drop a.at a.text.now) _ _ _ _
          (length-take-le (s.d * s.k) _ (few s.d s.k pre.input_length_bound pre.shingle_size_bound))
          (length-take-le ((s.d + time-width-at.result) * s.k) _ (few_wide (s.d + time-width-at.result) s.k (omega (
            arith,
            w,
            pre.input_length_bound,
          )) pre.shingle_size_bound) ∙ dimension_is s time-width-at.result
          time-width-at.ensures)
          (length-take-le s.k _ pre.shingle_size_bound)
          P.ensures.text_after);
      bad_bound = few_lines P.result _ 88 (omega (arith, pre.input_length_bound)) P.ensures.bad_bound;
    }
