-- `trcf_point::drain::feed_turn` meets its contract: by its callees' promises and the laws of lists. Assumes nothing.
use Rattle.trcf.proofs.LengthLaws.{feed_fits_lem, opened}
use Rattle.trcf.proofs.BoundLaws.{block_end, block_at, block_to, block_bytes, place_inside}
use native.Mathlib.Omega.{arith}
use mathlib.Core.Path.{◌∙◌}
use Prim.Native.Nat.{◌+◌}
use lib.ListN.{length}
use Rattle.trcf.proofs.DrainLaws.{feed_cut}
use Rattle.trcf.specs.View.{settings_of}
use borrow.Author.Rules.{rules}
use Rattle.trcf_point.proofs.drain.feed_turn.Goals as goal

pub overflow_mul-p : goal.overflow_mul-p
overflow_mul-p c =
    let a = c.args in
    let d = a.head.transformer.input_length in
    let n = length a.stamps.now in
    let m = length a.values.now in
    block_at c.saturating_sub-p.result n d m
    (place_inside a.i n c.saturating_sub-p.result c.saturating_sub-p.ensures c.requires.i_in_bounds)
    c.requires.input_length_in_bounds c.well_formed.1.1.0.1

pub overflow_mul-p-2 : goal.overflow_mul-p-2
overflow_mul-p-2 c =
    let a = c.args in
    let d = a.head.transformer.input_length in
    let n = length a.stamps.now in
    let m = length a.values.now in
    block_at c.saturating_sub-p.result n d m
    (place_inside a.i n c.saturating_sub-p.result c.saturating_sub-p.ensures c.requires.i_in_bounds)
    c.requires.input_length_in_bounds c.well_formed.1.1.0.1

pub overflow_add-p : goal.overflow_add-p
overflow_add-p c =
    let a = c.args in
    let d = a.head.transformer.input_length in
    let n = length a.stamps.now in
    let m = length a.values.now in
    block_to c.saturating_sub-p.result n d m
    (place_inside a.i n c.saturating_sub-p.result c.saturating_sub-p.ensures c.requires.i_in_bounds)
    c.requires.input_length_in_bounds c.well_formed.1.1.0.1

pub offset_bounds-values-p : goal.offset_bounds-values-p
offset_bounds-values-p c =
    let a = c.args in
    let d = a.head.transformer.input_length in
    let n = length a.stamps.now in
    let m = length a.values.now in
    block_bytes c.saturating_sub-p.result n d m
    (place_inside a.i n c.saturating_sub-p.result c.saturating_sub-p.ensures c.requires.i_in_bounds)
    c.requires.input_length_in_bounds c.well_formed.1.1.0.1

pub slice_bounds-feed_reading-count : goal.slice_bounds-feed_reading-count
slice_bounds-feed_reading-count c = omega arith

pub slice_bounds-feed_reading-start : goal.slice_bounds-feed_reading-start
slice_bounds-feed_reading-start c = omega arith

pub slice_bounds-feed_reading-end : goal.slice_bounds-feed_reading-end
slice_bounds-feed_reading-end c =
    let a = c.args in
    let d = a.head.transformer.input_length in
    let n = length a.stamps.now in
    let m = length a.values.now in
    block_end c.saturating_sub-p.result n d m
    (place_inside a.i n c.saturating_sub-p.result c.saturating_sub-p.ensures c.requires.i_in_bounds)
    c.requires.input_length_in_bounds c.well_formed.1.1.0.1

pub offset_bounds-stamps-p : goal.offset_bounds-stamps-p
offset_bounds-stamps-p c = omega arith

pub bounds-stamps-p : goal.bounds-stamps-p
bounds-stamps-p c = omega arith

pub overflow_mul-i : goal.overflow_mul-i
overflow_mul-i c =
    let a = c.args in
    let d = a.head.transformer.input_length in
    let n = length a.stamps.now in
    let m = length a.values.now in
    block_at a.i n d m c.requires.i_in_bounds
    c.requires.input_length_in_bounds c.well_formed.1.1.0.1

pub overflow_mul-i-2 : goal.overflow_mul-i-2
overflow_mul-i-2 c =
    let a = c.args in
    let d = a.head.transformer.input_length in
    let n = length a.stamps.now in
    let m = length a.values.now in
    block_at a.i n d m c.requires.i_in_bounds
    c.requires.input_length_in_bounds c.well_formed.1.1.0.1

pub overflow_add-i : goal.overflow_add-i
overflow_add-i c =
    let a = c.args in
    let d = a.head.transformer.input_length in
    let n = length a.stamps.now in
    let m = length a.values.now in
    block_to a.i n d m c.requires.i_in_bounds
    c.requires.input_length_in_bounds c.well_formed.1.1.0.1

pub offset_bounds-values-i : goal.offset_bounds-values-i
offset_bounds-values-i c =
    let a = c.args in
    let d = a.head.transformer.input_length in
    let n = length a.stamps.now in
    let m = length a.values.now in
    block_bytes a.i n d m c.requires.i_in_bounds
    c.requires.input_length_in_bounds c.well_formed.1.1.0.1

pub slice_bounds-feed_reading-count-2 : goal.slice_bounds-feed_reading-count-2
slice_bounds-feed_reading-count-2 c = omega arith

pub slice_bounds-feed_reading-start-2 : goal.slice_bounds-feed_reading-start-2
slice_bounds-feed_reading-start-2 c = omega arith

pub slice_bounds-feed_reading-end-2 : goal.slice_bounds-feed_reading-end-2
slice_bounds-feed_reading-end-2 c =
    let a = c.args in
    let d = a.head.transformer.input_length in
    let n = length a.stamps.now in
    let m = length a.values.now in
    block_end a.i n d m c.requires.i_in_bounds
    c.requires.input_length_in_bounds c.well_formed.1.1.0.1

pub offset_bounds-stamps-i : goal.offset_bounds-stamps-i
offset_bounds-stamps-i c = omega arith

pub bounds-stamps-i : goal.bounds-stamps-i
bounds-stamps-i c = omega arith

pub returns : goal.returns
returns c =
    let a = c.args in
    let d = a.head.transformer.input_length in
    let n = length a.stamps.now in
    (opened _ c.feed_reading.ensures (feed_fits_lem (search rules))) ∙ feed_cut (settings_of a.head) (a.head.transformer.count + a.i) a.s.now d a.values.now
    a.stamps.now c.saturating_sub-p.result a.i
    c.saturating_sub-p.ensures
