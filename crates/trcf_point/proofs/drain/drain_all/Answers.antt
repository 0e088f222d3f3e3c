-- `trcf_point::drain::drain_all` meets its contract: by its callees' promises and the laws of lists. Assumes nothing.
use Rattle.trcf.proofs.LengthLaws.{roomy}
use native.Mathlib.Omega.{arith}
use mathlib.Core.Path.{◌≡◌, ◌∙◌}
use Prim.Native.Nat.{suc, ◌+◌, ◌-◌}
use native.Mathlib.Nat.{le-mul_of_pos_right}
use lib.ListN.{length, length-take, take}
use lib.ListN.{length-set}
use lib.Seq.{length-take-le}
use Rattle.trcf.proofs.DrainLaws.{block_in, drain_both}
use Rattle.trcf.proofs.ShingleLaws.{paste_overwrite, set_overwrite}
use Rattle.trcf_point.proofs.drain.drain_all.Goals as goal

pub overflow_sub-n : goal.overflow_sub-n
overflow_sub-n c =
    let a = c.args in
    let d = a.head.transformer.input_length in
    let q = c.requires in
    let m = le-mul_of_pos_right d q.bounded.k_pos in
    let f = block_in 0 (length a.stamps.now) d (omega (arith, q)) in
    omega (arith, q.exact)

pub slice_bounds-copy_in-end : goal.slice_bounds-copy_in-end
slice_bounds-copy_in-end c =
    let a = c.args in
    let d = a.head.transformer.input_length in
    let q = c.requires in
    let m = le-mul_of_pos_right d q.bounded.k_pos in
    let f = block_in 0 (length a.stamps.now) d (omega (arith, q)) in
    simp length-take (omega (arith, q))

pub bounds-stamps-0 : goal.bounds-stamps-0
bounds-stamps-0 c = omega arith

pub overflow_sub-times : goal.overflow_sub-times
overflow_sub-times c = omega arith

pub offset_bounds-times-k : goal.offset_bounds-times-k
offset_bounds-times-k c = omega arith

pub drain_each-requires : goal.drain_each-requires
drain_each-requires c =
    let a = c.args in
    let d = a.head.transformer.input_length in
    let q = c.requires in
    let m = le-mul_of_pos_right d q.bounded.k_pos in
    let f = block_in 0 (length a.stamps.now) d (omega (arith, q)) in
    record {
      bounded = q.bounded;
      exact = record {
        all_statistics = omega (arith, q.exact);
        all_input = omega (arith, c.copy_in.auto, q.exact);
        all_times = simp length-set (omega (arith, q.exact));
      };
      points_len = q.points_len;
      values_len = q.values_len;
      stamps_bound = q.stamps_bound;
      stamps_nonzero = q.stamps_nonzero;
    }

pub returns : goal.returns
returns c =
    let a = c.args in
    let d = a.head.transformer.input_length in
    let q = c.requires in
    let m = le-mul_of_pos_right d q.bounded.k_pos in
    let f = block_in 0 (length a.stamps.now) d (omega (arith, q)) in
    let n = length a.inputs.now in
    let u = length-take-le d a.values.now (omega (arith, q)) in
    let e : n - d + length (take d a.values.now) ≡ n = omega (arith, u, q.exact) in
    let k : suc (length a.times.now - 1) ≡ length a.times.now = omega (arith, q.exact, q.bounded) in
    c.drain_each.ensures ∙ drain_both a.head a.s.now a.inputs.now a.points.now a.times.now
    a.head.internal_timestamp _ _ a.values.now a.stamps.now (omega (arith, q))
    ((roomy _ c.copy_in.ensures
    (let a = c.args in let d = a.head.transformer.input_length in let q = c.requires in let m = le-mul_of_pos_right d q.bounded.k_pos in let f = block_in
    0 (length a.stamps.now) d (omega (arith, q)) in simp length-take (omega (arith, q)))) ∙ paste_overwrite a.inputs.now (take d a.values.now) (n - d) e)
    (set_overwrite a.times.now _ (length a.times.now - 1) k)
