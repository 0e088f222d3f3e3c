-- `trcf_point::drain::drain_turn` meets its contract: by its callees' promises and the laws of lists. Assumes nothing.
use Rattle.trcf.proofs.LengthLaws.{block_known, opened, roomy, transform_fits_lem}
use Rattle.trcf.proofs.BoundLaws.{block_start, block_end, block_at, block_to, block_bytes, flat_of}
use native.Mathlib.Omega.{arith}
use mathlib.Core.Path.{sym, ap, ◌∙◌}
use Prim.Native.Nat.{ℕ}
use native.Mathlib.Nat.{le-mul_of_pos_right}
use lib.ListN.{length, length-take, length-drop}
use Rattle.trcf.proofs.DrainLaws.{block_in, block_cut, point_cut, block_is, block_fits}
use Rattle.trcf.specs.Preprocessor.{previous, reading, transformed_after}
use Rattle.trcf.specs.View.{settings_of}
use Rattle.trcf.specs.Steps.Learning.{reading_at}
use Rattle.trcf.specs.Lists.{last_n, shift_in}
use borrow.Author.Rules.{scaled_Fits}
use Rattle.trcf_point.proofs.drain.drain_turn.Goals as goal

pub offset_bounds-stamps-i : goal.offset_bounds-stamps-i
offset_bounds-stamps-i c =
    let a = c.args in
    scaled_Fits a.i (length a.stamps.now) 8 c.requires.i_in_bounds
    c.well_formed.1.1.1.1.1.1.0.1

pub bounds-stamps-i : goal.bounds-stamps-i
bounds-stamps-i c = omega arith

pub overflow_mul-i : goal.overflow_mul-i
overflow_mul-i c =
    let at_pre = c.requires in
    let a = c.args in
    let d = a.head.transformer.input_length in
    let n = length a.stamps.now in
    let m = length a.values.now in
    block_at a.i n d m at_pre.i_in_bounds (flat_of n d m at_pre.values_len) c.well_formed.1.1.1.1.1.0.1

pub overflow_mul-i-2 : goal.overflow_mul-i-2
overflow_mul-i-2 c =
    let at_pre = c.requires in
    let a = c.args in
    let d = a.head.transformer.input_length in
    let n = length a.stamps.now in
    let m = length a.values.now in
    block_at a.i n d m at_pre.i_in_bounds (flat_of n d m at_pre.values_len) c.well_formed.1.1.1.1.1.0.1

pub overflow_add-i : goal.overflow_add-i
overflow_add-i c =
    let at_pre = c.requires in
    let a = c.args in
    let d = a.head.transformer.input_length in
    let n = length a.stamps.now in
    let m = length a.values.now in
    block_to a.i n d m at_pre.i_in_bounds (flat_of n d m at_pre.values_len) c.well_formed.1.1.1.1.1.0.1

pub offset_bounds-values-i : goal.offset_bounds-values-i
offset_bounds-values-i c =
    let a = c.args in
    let d = a.head.transformer.input_length in
    let n = length a.stamps.now in
    let m = length a.values.now in
    block_bytes a.i n d m c.requires.i_in_bounds (flat_of n d m c.requires.values_len)
    c.well_formed.1.1.1.1.1.0.1

pub slice_bounds-write_transform-count : goal.slice_bounds-write_transform-count
slice_bounds-write_transform-count c = omega arith

pub slice_bounds-write_transform-start : goal.slice_bounds-write_transform-start
slice_bounds-write_transform-start c =
    let a = c.args in block_start a.i a.head.transformer.input_length

pub slice_bounds-write_transform-end : goal.slice_bounds-write_transform-end
slice_bounds-write_transform-end c =
    let at_pre = c.requires in
    let a = c.args in
    let d = a.head.transformer.input_length in
    let n = length a.stamps.now in
    let m = length a.values.now in
    block_end a.i n d m at_pre.i_in_bounds (flat_of n d m at_pre.values_len) c.well_formed.1.1.1.1.1.0.1

pub overflow_mul-i-3 : goal.overflow_mul-i-3
overflow_mul-i-3 c =
    let at_pre = c.requires in
    let a = c.args in
    let d = a.head.transformer.input_length in
    let n = length a.stamps.now in
    let m = length a.values.now in
    block_at a.i n d m at_pre.i_in_bounds (flat_of n d m at_pre.values_len) c.well_formed.1.1.1.1.1.0.1

pub overflow_mul-i-4 : goal.overflow_mul-i-4
overflow_mul-i-4 c =
    let at_pre = c.requires in
    let a = c.args in
    let d = a.head.transformer.input_length in
    let n = length a.stamps.now in
    let m = length a.values.now in
    block_at a.i n d m at_pre.i_in_bounds (flat_of n d m at_pre.values_len) c.well_formed.1.1.1.1.1.0.1

pub overflow_add-i-2 : goal.overflow_add-i-2
overflow_add-i-2 c =
    let at_pre = c.requires in
    let a = c.args in
    let d = a.head.transformer.input_length in
    let n = length a.stamps.now in
    let m = length a.values.now in
    block_to a.i n d m at_pre.i_in_bounds (flat_of n d m at_pre.values_len) c.well_formed.1.1.1.1.1.0.1

pub offset_bounds-values-i-2 : goal.offset_bounds-values-i-2
offset_bounds-values-i-2 c =
    let at_pre = c.requires in
    let a = c.args in
    let d = a.head.transformer.input_length in
    let n = length a.stamps.now in
    let m = length a.values.now in
    block_bytes a.i n d m at_pre.i_in_bounds (flat_of n d m at_pre.values_len) c.well_formed.1.1.1.1.1.0.1

pub slice_bounds-shift_in-count : goal.slice_bounds-shift_in-count
slice_bounds-shift_in-count c = omega arith

pub slice_bounds-shift_in-start : goal.slice_bounds-shift_in-start
slice_bounds-shift_in-start c =
    let a = c.args in
    block_start a.i a.head.transformer.input_length

pub slice_bounds-shift_in-end : goal.slice_bounds-shift_in-end
slice_bounds-shift_in-end c =
    let at_pre = c.requires in
    let a = c.args in
    let d = a.head.transformer.input_length in
    let n = length a.stamps.now in
    let m = length a.values.now in
    block_end a.i n d m at_pre.i_in_bounds (flat_of n d m at_pre.values_len) c.well_formed.1.1.1.1.1.0.1

pub slice_bounds-shift_in-end-2 : goal.slice_bounds-shift_in-end-2
slice_bounds-shift_in-end-2 c =
    let few = c.requires.bounded.d_few in
    simp length-take (omega (arith, c.write_transform.auto, block_known (c.block_of-b.ensures.value, c.block_of-b.ensures.upper_bound) few))

pub returns : goal.returns
unfolding previous
returns c =
    let a = c.args in
    let q = c.requires in
    let s = settings_of a.head in
    let d = a.head.transformer.input_length in
    let n = length a.stamps.now in
    let w = block_known (c.block_of-b.ensures.value, c.block_of-b.ensures.upper_bound) q.bounded.d_few in
    let e = w.0 ∙ sym (block_is s) in
    let t = c.write_transform in
    let l = c.last_time-before in
    let b = block_in a.i n d (omega (arith, q)) in record {
      inputs_after = (roomy _ c.shift_in.ensures
          (let m = le-mul_of_pos_right d q.bounded.k_pos in simp (length-drop, length-take) (omega (arith, q)))) ∙ ap (shift_in a.inputs.now) (block_cut a.i d a.values.now);
      points_after = (roomy _ c.shift_in-2.ensures
          (let m = block_fits s q.bounded.k_pos in simp length-take (omega (arith, t.auto, w, block_is s, q))))
          ∙ point_cut s a.s.now a.head.values_seen (reading (last_n d a.inputs.now) l.result) d a.values.now a.i _ _ _ a.points.now
          c.block_of-b.result e
          (opened _ t.ensures
          (transform_fits_lem
          (q.bounded, (q.exact.all_statistics, (q.exact.all_input, (simp (length-drop, length-take) (omega (arith, q)), omega (arith, w, block_is s)))))))
          ∙ ap (λ (k : ℕ). shift_in a.points.now (transformed_after s a.s.now a.head.values_seen (reading (last_n d a.inputs.now) k)
          (reading_at d a.values.now a.stamps.now a.i))) l.ensures;
      times_after = (roomy _ c.shift_in-3.ensures (omega (arith, q.bounded.k_pos, q.exact.all_times)));
    }
