-- The numbers and the times, each written to the front of its lists. Assumes nothing.
use Rattle.trcf.proofs.LengthLaws.{dimension_known}
use native.Mathlib.Omega.{arith}
use native.Mathlib.Nat.{div-mul-le_self}
use mathlib.Core.Path.{◌≡◌, sym, ap, ◌∙◌}
use Prim.Native.Nat.{◌*◌, ◌/◌, ◌≤◌, ◌<◌}
use lib.ListN.{length}
use lib.Seq.{length-take-le}
use Rattle.ranges.specs.RangeVector.{ranges, held}
use Rattle.trcf.specs.Settings.{dimension}
use Rattle.trcf.specs.View.{settings_of}
use Rattle.trcf.proofs.ExtrapolationLaws.{dimension_pos, numbers_within, numbers_fit, some_block, room_numbers, room_times, some_blocks, numbers_are, times_are, parts_over}
use borrow.Author.Rules.{rules}
use Rattle.trcf_forecast.proofs.forecast.invert_augmented.Goals as goal

pub nonzero_div-h : goal.nonzero_div-h
nonzero_div-h c =
    let P = c.requires in
    let p = dimension_pos (settings_of c.args.head) P.invertible.bounded.d_pos P.invertible.bounded.k_pos in
    let q : 0 < c.get_dimension-a.result = omega (arith, (dimension_known c.get_dimension-a.ensures (search rules)).0) in
    search rules

pub overflow_mul-n : goal.overflow_mul-n
overflow_mul-n c =
    let A = c.args in
    let P = c.requires in
    let w = numbers_within (settings_of A.head) in
    let q = numbers_fit (length A.range.now.values.now) c.get_dimension-a.result (length A.inputs.now) (omega (arith, w, P.inputs_len, (dimension_known c.get_dimension-a.ensures (search rules)).0)) in
    let g : length A.range.now.values.now < 18446744073709551616 = omega arith in
    omega arith

pub slice_bounds-invert_numbers-end : goal.slice_bounds-invert_numbers-end
slice_bounds-invert_numbers-end c =
    let A = c.args in
    let P = c.requires in
    let r = room_numbers (settings_of A.head) (length A.range.now.values.now) c.get_dimension-a.result (length A.inputs.now) (length A.values_out.now)
    (length A.upper_out.now) (length A.lower_out.now) (dimension_known c.get_dimension-a.ensures (search rules)).0 P.inputs_len (P.invertible.long P.forest_mode_value).numbers in
    r.values

pub slice_bounds-invert_numbers-end-2 : goal.slice_bounds-invert_numbers-end-2
slice_bounds-invert_numbers-end-2 c =
    let A = c.args in
    let P = c.requires in
    let r = room_numbers (settings_of A.head) (length A.range.now.values.now) c.get_dimension-a.result (length A.inputs.now) (length A.values_out.now)
    (length A.upper_out.now) (length A.lower_out.now) (dimension_known c.get_dimension-a.ensures (search rules)).0 P.inputs_len (P.invertible.long P.forest_mode_value).numbers
    in
    sym (length-take-le _ A.values_out.now r.values)

pub slice_bounds-invert_numbers-end-3 : goal.slice_bounds-invert_numbers-end-3
slice_bounds-invert_numbers-end-3 c =
    let A = c.args in
    let P = c.requires in
    let r = room_numbers (settings_of A.head) (length A.range.now.values.now) c.get_dimension-a.result (length A.inputs.now) (length A.values_out.now)
    (length A.upper_out.now) (length A.lower_out.now) (dimension_known c.get_dimension-a.ensures (search rules)).0 P.inputs_len (P.invertible.long P.forest_mode_value).numbers
    in
    r.upper

pub slice_bounds-invert_numbers-end-4 : goal.slice_bounds-invert_numbers-end-4
slice_bounds-invert_numbers-end-4 c =
    let A = c.args in
    let P = c.requires in
    let r = room_numbers (settings_of A.head) (length A.range.now.values.now) c.get_dimension-a.result (length A.inputs.now) (length A.values_out.now)
    (length A.upper_out.now) (length A.lower_out.now) (dimension_known c.get_dimension-a.ensures (search rules)).0 P.inputs_len
    (P.invertible.long P.forest_mode_value).numbers in
    sym (length-take-le _ A.upper_out.now r.upper)

pub slice_bounds-invert_numbers-end-5 : goal.slice_bounds-invert_numbers-end-5
slice_bounds-invert_numbers-end-5 c =
    let A = c.args in
    let P = c.requires in
    let r = room_numbers (settings_of A.head) (length A.range.now.values.now) c.get_dimension-a.result (length A.inputs.now) (length A.values_out.now)
    (length A.upper_out.now) (length A.lower_out.now) (dimension_known c.get_dimension-a.ensures (search rules)).0 P.inputs_len
    (P.invertible.long P.forest_mode_value).numbers in
    r.lower

pub slice_bounds-invert_numbers-end-6 : goal.slice_bounds-invert_numbers-end-6
slice_bounds-invert_numbers-end-6 c =
    let A = c.args in
    let P = c.requires in
    let r = room_numbers (settings_of A.head) (length A.range.now.values.now) c.get_dimension-a.result (length A.inputs.now)
    (length A.values_out.now) (length A.upper_out.now) (length A.lower_out.now)
    (dimension_known c.get_dimension-a.ensures (search rules)).0 P.inputs_len (P.invertible.long P.forest_mode_value).numbers in
    sym (length-take-le _ A.lower_out.now r.lower)

pub invert_numbers-requires : goal.invert_numbers-requires
invert_numbers-requires c =
    let A = c.args in
    let P = c.requires in
    let r = room_numbers (settings_of A.head) (length A.range.now.values.now) c.get_dimension-a.result (length A.inputs.now)
    (length A.values_out.now) (length A.upper_out.now) (length A.lower_out.now)
    (dimension_known c.get_dimension-a.ensures (search rules)).0 P.inputs_len (P.invertible.long P.forest_mode_value).numbers in
    let e = (dimension_known c.get_dimension-a.ensures (search rules)).0 in
    let s = settings_of A.head in
    let n = length A.range.now.values.now in
    let h = n / c.get_dimension-a.result in
    let some : 0 < h = some_blocks n c.get_dimension-a.result s e
    (some_block s n (dimension_pos s P.invertible.bounded.d_pos P.invertible.bounded.k_pos) (P.invertible.unbroken.blocks P.forest_mode_value)) in
    let within : h * dimension s ≤ n = rw (← e) (div-mul-le_self n c.get_dimension-a.result) in
    let wu : h * dimension s ≤ length A.range.now.upper.now = rw P.invertible.unbroken.upper within in
    let wl : h * dimension s ≤ length A.range.now.lower.now = rw P.invertible.unbroken.lower within in
    let m : h * length A.inputs.now ≡ h * (A.head.transformer.input_length * A.head.shingle_size) = ap (λ k. h * k) P.inputs_len in record {
      bounded = P.invertible.bounded;
      head_in_bounds = (P.invertible.readable.statistics, P.inputs_len);
      h_nonzero = some;
      head_in_bounds_2 = (within, wu, wl);
      values_out_len = (
        length-take-le _ A.values_out.now r.values ∙ m,
        length-take-le _ A.upper_out.now r.upper ∙ m,
        length-take-le _ A.lower_out.now r.lower ∙
            m,
      );
    }

pub slice_bounds-invert_times-end : goal.slice_bounds-invert_times-end
slice_bounds-invert_times-end c =
    let A = c.args in
    let P = c.requires in
    let r = room_times (settings_of A.head) (length A.range.now.values.now) c.get_dimension-a.result (length A.times_out.now)
    (length A.times_upper_out.now) (length A.times_lower_out.now) (dimension_known c.get_dimension-a.ensures (search rules)).0
    (P.invertible.long P.forest_mode_value).times in
    r.values

pub slice_bounds-invert_times-end-2 : goal.slice_bounds-invert_times-end-2
slice_bounds-invert_times-end-2 c =
    let A = c.args in
    let P = c.requires in
    let r = room_times (settings_of A.head) (length A.range.now.values.now) c.get_dimension-a.result (length A.times_out.now)
    (length A.times_upper_out.now) (length A.times_lower_out.now) (dimension_known c.get_dimension-a.ensures (search rules)).0
    (P.invertible.long P.forest_mode_value).times in
    sym (length-take-le _ A.times_out.now r.values)

pub slice_bounds-invert_times-end-3 : goal.slice_bounds-invert_times-end-3
slice_bounds-invert_times-end-3 c =
    let A = c.args in
    let P = c.requires in
    let r = room_times (settings_of A.head) (length A.range.now.values.now) c.get_dimension-a.result (length A.times_out.now)
    (length A.times_upper_out.now) (length A.times_lower_out.now) (dimension_known c.get_dimension-a.ensures (search rules)).0
    (P.invertible.long P.forest_mode_value).times in
    r.upper

pub slice_bounds-invert_times-end-4 : goal.slice_bounds-invert_times-end-4
slice_bounds-invert_times-end-4 c =
    let A = c.args in
    let P = c.requires in
    let r = room_times (settings_of A.head) (length A.range.now.values.now) c.get_dimension-a.result (length A.times_out.now)
    (length A.times_upper_out.now) (length A.times_lower_out.now) (dimension_known c.get_dimension-a.ensures (search rules)).0
    (P.invertible.long P.forest_mode_value).times in
    sym (length-take-le _ A.times_upper_out.now r.upper)

pub slice_bounds-invert_times-end-5 : goal.slice_bounds-invert_times-end-5
slice_bounds-invert_times-end-5 c =
    let A = c.args in
    let P = c.requires in
    let r = room_times (settings_of A.head) (length A.range.now.values.now) c.get_dimension-a.result (length A.times_out.now)
    (length A.times_upper_out.now) (length A.times_lower_out.now) (dimension_known c.get_dimension-a.ensures (search rules)).0
    (P.invertible.long P.forest_mode_value).times in
    r.lower

pub slice_bounds-invert_times-end-6 : goal.slice_bounds-invert_times-end-6
slice_bounds-invert_times-end-6 c =
    let A = c.args in
    let P = c.requires in
    let r = room_times (settings_of A.head) (length A.range.now.values.now) c.get_dimension-a.result (length A.times_out.now)
    (length A.times_upper_out.now) (length A.times_lower_out.now)
    (dimension_known c.get_dimension-a.ensures (search rules)).0 (P.invertible.long P.forest_mode_value).times in
    sym (length-take-le _ A.times_lower_out.now r.lower)

pub invert_times-requires : goal.invert_times-requires
invert_times-requires c =
    let A = c.args in
    let P = c.requires in
    let r = room_times (settings_of A.head) (length A.range.now.values.now) c.get_dimension-a.result (length A.times_out.now)
    (length A.times_upper_out.now) (length A.times_lower_out.now)
    (dimension_known c.get_dimension-a.ensures (search rules)).0 (P.invertible.long P.forest_mode_value).times in
    let e = (dimension_known c.get_dimension-a.ensures (search rules)).0 in
    let s = settings_of A.head in
    let n = length A.range.now.values.now in
    let h = n / c.get_dimension-a.result in
    let some : 0 < h = some_blocks n c.get_dimension-a.result s e
    (some_block s n (dimension_pos s P.invertible.bounded.d_pos P.invertible.bounded.k_pos) (P.invertible.unbroken.blocks P.forest_mode_value)) in
    let within : h * dimension s ≤ n = rw (← e) (div-mul-le_self n c.get_dimension-a.result) in
    let wu : h * dimension s ≤ length A.range.now.upper.now = rw P.invertible.unbroken.upper within in
    let wl : h * dimension s ≤ length A.range.now.lower.now = rw P.invertible.unbroken.lower within in
    let lv = length-take-le h A.times_out.now r.values in
    let lu = length-take-le h A.times_upper_out.now r.upper in
    let ll = length-take-le h A.times_lower_out.now r.lower in record {
      bounded = P.invertible.bounded;
      head_in_bounds = P.invertible.readable.statistics;
      forest_mode_value = P.forest_mode_value;
      nonzero = rw lv some;
      upper_out_len = (lu ∙ sym lv, ll ∙ sym lv);
      head_in_bounds_2 = (rw lv within, rw lv wu, rw lv wl);
    }

pub returns-clause-lower_out_after : goal.returns-clause-lower_out_after
returns-clause-lower_out_after c =
    let A = c.args in
    let P = c.requires in
    let r = room_times (settings_of A.head) (length A.range.now.values.now) c.get_dimension-a.result (length A.times_out.now)
    (length A.times_upper_out.now) (length A.times_lower_out.now) (dimension_known c.get_dimension-a.ensures (search rules)).0
    (P.invertible.long P.forest_mode_value).times in
    let q = room_numbers (settings_of A.head) (length A.range.now.values.now) c.get_dimension-a.result (length A.inputs.now)
    (length A.values_out.now) (length A.upper_out.now) (length A.lower_out.now)
    (dimension_known c.get_dimension-a.ensures (search rules)).0 P.inputs_len (P.invertible.long P.forest_mode_value).numbers in
    let v = held A.range.now in
    let h = length A.range.now.values.now / c.get_dimension-a.result in
    let n = h * length A.inputs.now in
    let N = c.invert_numbers in
    let T = c.invert_times in
    let lv = length-take-le h A.times_out.now r.values in
    parts_over (ranges A.values_out.now A.upper_out.now A.lower_out.now) _ N.new.values_out N.new.upper_out
    N.new.lower_out n
    (N.auto.values_out ∙ length-take-le n A.values_out.now q.values) (N.auto.upper_out ∙ length-take-le n A.upper_out.now q.upper)
    (N.auto.lower_out ∙ length-take-le n A.lower_out.now q.lower)
    (N.ensures ∙ numbers_are A.head A.s.now A.inputs.now A.times.now v c.get_dimension-a.result
    (dimension_known c.get_dimension-a.ensures (search rules)).0)

pub returns-clause-times_lower_out_after : goal.returns-clause-times_lower_out_after
returns-clause-times_lower_out_after c =
    let A = c.args in
    let P = c.requires in
    let r = room_times (settings_of A.head) (length A.range.now.values.now) c.get_dimension-a.result (length A.times_out.now)
    (length A.times_upper_out.now) (length A.times_lower_out.now) (dimension_known c.get_dimension-a.ensures (search rules)).0
    (P.invertible.long P.forest_mode_value).times in
    let q = room_numbers (settings_of A.head) (length A.range.now.values.now) c.get_dimension-a.result (length A.inputs.now)
    (length A.values_out.now) (length A.upper_out.now) (length A.lower_out.now)
    (dimension_known c.get_dimension-a.ensures (search rules)).0 P.inputs_len (P.invertible.long P.forest_mode_value).numbers in
    let v = held A.range.now in
    let h = length A.range.now.values.now / c.get_dimension-a.result in
    let n = h * length A.inputs.now in
    let N = c.invert_numbers in
    let T = c.invert_times in
    let lv = length-take-le h A.times_out.now r.values in
    parts_over (ranges A.times_out.now A.times_upper_out.now A.times_lower_out.now) _ T.new.values_out T.new.upper_out
    T.new.lower_out h
    (T.auto.values_out ∙ lv) (T.auto.upper_out ∙ length-take-le h A.times_upper_out.now r.upper)
    (T.auto.lower_out ∙ length-take-le h A.times_lower_out.now r.lower)
    ((rw lv at T.ensures) ∙ times_are A.head A.s.now A.inputs.now A.times.now v c.get_dimension-a.result
    (dimension_known c.get_dimension-a.ensures (search rules)).0 c.last_time-last.result
    c.last_time-last.ensures)
