-- `trcf_point::point::write_point` meets its contract: by its callees' promises, the time's number after the channels'. Assumes nothing.
use Rattle.trcf.proofs.LengthLaws.{block_known, dimension_known, statistics_known, opened, transform_fits_lem}
use native.Mathlib.Omega.{arith}
use mathlib.Core.List.{List}
use lib.Ieee.{Float}
use mathlib.Core.Path.{sym, ap, ◌∙◌}
use Prim.Native.Nat.{ℕ, ◌*◌}
use lib.ListN.{length-take, take}
use lib.Seq.{length-take-le}
use Rattle.refusal.specs.Lent.{over}
use Rattle.trcf.specs.Lists.{last_n, shift_in}
use Rattle.trcf.specs.Preprocessor.{transformed_after, reading, statistics_length}
use Rattle.trcf.specs.View.{settings_of}
use Rattle.trcf.proofs.DrainLaws.{block_is, block_fits, front_over, transformed_after_length}
use borrow.Author.Rules.{rules}
use Rattle.trcf_point.proofs.point.write_point.Goals as goal

pub slice_bounds-write_transform-end : goal.slice_bounds-write_transform-end
slice_bounds-write_transform-end c =
    rw (statistics_known c.statistics_length.ensures c.requires.bounded.d_few) (sym (length-take-le _ _ c.requires.head_in_bounds))

pub slice_bounds-copy_shifted-end-2 : goal.slice_bounds-copy_shifted-end-2
slice_bounds-copy_shifted-end-2 c =
    simp length-take (omega (arith, (block_known (c.block_of-b.ensures.value, c.block_of-b.ensures.upper_bound) (search rules)), c.write_transform.auto))

pub copy_shifted-requires : goal.copy_shifted-requires
copy_shifted-requires c =
    let q = c.requires in
    let s = settings_of c.args.head in
    let n = dimension_known c.get_dimension-m.ensures (search rules) in
    let w = block_known (c.block_of-b.ensures.value, c.block_of-b.ensures.upper_bound) (search rules) in
    let m = block_fits s q.bounded.k_pos in
    (simp length-take (omega (arith, q, w, block_is s, n, m, c.write_transform.auto)), simp length-take (omega (arith, q, n)))

pub returns : goal.returns
returns c =
    let start = c in
    let a = c.args in
    let q = c.requires in
    let o = c.get_dimension-m in
    let b = c.block_of-b in
    let t = c.write_transform in
    let s = settings_of a.head in
    let d = a.head.transformer.input_length in
    let n = dimension_known o.ensures (search rules) in
    let w = block_known (b.ensures.value, b.ensures.upper_bound) (search rules) in
    let e = w.0 ∙ sym (block_is s) in
    let v =
    transformed_after s (take (statistics_length s) a.statistics.now) a.head.values_seen
    (reading (last_n d (take (d * a.head.shingle_size) a.last_shingled_input.now)) a.base) (reading a.input.now a.timestamp) in
    let behind =
    ap (take b.result)
    (opened _ (rw (statistics_known c.statistics_length.ensures q.bounded.d_few) at t.ensures)
    (transform_fits_lem (q.bounded, (length-take-le _ _ q.head_in_bounds, (length-take-le _ _ q.shingle_size_in_bounds, (q.input_len, omega (arith, w, block_is s)))))))
    ∙ front_over _ v b.result (transformed_after_length _ _ _ _ _ ∙ sym e) in
    c.copy_shifted.ensures
    ∙ ap (λ (z : List Float). over a.output.now (shift_in (take o.result a.last_shingled_point.now) z)) behind
    ∙ ap (λ (k : ℕ). over a.output.now (shift_in (take k a.last_shingled_point.now) v)) n.0
