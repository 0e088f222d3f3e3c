-- `trcf_learn::learn::write_past` meets its contract: by its callees' promises and the laws of lists. Assumes nothing.
use Rattle.trcf.proofs.LengthLaws.{roomy}
use Rattle.trcf.proofs.BoundLaws.{block_start, block_end, block_at, block_to, block_bytes, flat_turned, back_inside}
use native.Mathlib.Omega.{arith}
use mathlib.Core.Path.{ap, ◌∙◌}
use borrow.Author.Tests.{eq-eqb, ne_eqb}
use Prim.Native.Nat.{◌-◌}
use lib.ListN.{length}
use Rattle.refusal.specs.Lent.{over}
use Rattle.trcf.specs.Preprocessor.{block_from}
use Rattle.trcf.proofs.DrainLaws.{block_cut}
use Rattle.trcf.proofs.ShingleLaws.{paste_over}
use borrow.Author.Rules.{rules}
use Rattle.trcf_learn.proofs.learn.write_past.Goals as goal

pub overflow_sub-at : goal.overflow_sub-at
overflow_sub-at c = omega arith

pub overflow_mul-at : goal.overflow_mul-at
overflow_mul-at c =
    let a = c.args in
    let h = a.head in
    let d = h.transformer.input_length in
    let k = h.shingle_size in
    let m = length a.inputs.now in
    block_at (a.head.shingle_size - a.back) k d m
    (back_inside h.shingle_size a.back c.if-back-eq0.false c.requires.back_bound)
    (flat_turned k d m c.requires.inputs_len) c.well_formed.1.0.1

pub overflow_mul-at-else-back-eq0 : goal.overflow_mul-at-else-back-eq0
overflow_mul-at-else-back-eq0 c =
    let a = c.args in
    let h = a.head in
    let d = h.transformer.input_length in
    let k = h.shingle_size in
    let m = length a.inputs.now in
    block_at (a.head.shingle_size - a.back) k d m
    (back_inside h.shingle_size a.back c.if-back-eq0.false c.requires.back_bound)
    (flat_turned k d m c.requires.inputs_len) c.well_formed.1.0.1

pub overflow_add-at : goal.overflow_add-at
overflow_add-at c =
    let a = c.args in
    let h = a.head in
    let d = h.transformer.input_length in
    let k = h.shingle_size in
    let m = length a.inputs.now in
    block_to (a.head.shingle_size - a.back) k d m
    (back_inside h.shingle_size a.back c.if-back-eq0.false c.requires.back_bound)
    (flat_turned k d m c.requires.inputs_len) c.well_formed.1.0.1

pub offset_bounds-inputs-at : goal.offset_bounds-inputs-at
offset_bounds-inputs-at c =
    let a = c.args in
    let h = a.head in
    let d = h.transformer.input_length in
    let k = h.shingle_size in
    let m = length a.inputs.now in
    block_bytes (a.head.shingle_size - a.back) k d m
    (back_inside h.shingle_size a.back c.if-back-eq0.false c.requires.back_bound)
    (flat_turned k d m c.requires.inputs_len) c.well_formed.1.0.1

pub slice_bounds-copy_in-count : goal.slice_bounds-copy_in-count
slice_bounds-copy_in-count c = omega arith

pub slice_bounds-copy_in-start : goal.slice_bounds-copy_in-start
slice_bounds-copy_in-start c = let a = c.args in block_start (a.head.shingle_size - a.back) a.head.transformer.input_length

pub slice_bounds-copy_in-end : goal.slice_bounds-copy_in-end
slice_bounds-copy_in-end c =
    let a = c.args in
    let h = a.head in
    let d = h.transformer.input_length in
    let k = h.shingle_size in
    let m = length a.inputs.now in
    block_end (a.head.shingle_size - a.back) k d m
    (back_inside h.shingle_size a.back c.if-back-eq0.false c.requires.back_bound)
    (flat_turned k d m c.requires.inputs_len) c.well_formed.1.0.1

pub returns-then-back-eq0 : goal.returns-then-back-eq0
returns-then-back-eq0 c = rw (eq-eqb _ _ c.if-back-eq0.true) ((roomy _ c.copy_in.ensures (search rules)) ∙ paste_over _ _)

pub returns-else-back-eq0 : goal.returns-else-back-eq0
unfolding block_from
returns-else-back-eq0 c =
    let a = c.args in
    let h = a.head in
    let q = c.requires in
    let d = h.transformer.input_length in
    rw (ne_eqb _ _ c.if-back-eq0.false)
    ((roomy _ c.copy_in-else-back-eq0.ensures (search rules)) ∙ paste_over _ _ ∙ ap (over a.output.now) (block_cut (h.shingle_size - a.back) d a.inputs.now))
