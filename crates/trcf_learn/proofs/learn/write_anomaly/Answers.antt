-- `trcf_learn::learn::write_anomaly` meets its contract: by its callees' promises and the laws of lists. Assumes nothing.
use Rattle.trcf.proofs.LengthLaws.{passing, transform_row_zero}
use Rattle.trcf.proofs.BoundLaws.{block_start, block_end, block_at, block_to, block_bytes, flat_turned, place_back, flat_wide}
use native.Mathlib.Omega.{arith}
use mathlib.Core.Path.{refl, ap, ◌∙◌}
use Prim.Native.Nat.{◌-◌}
use native.Mathlib.Nat.{mul-le-mul, mul_comm}
use lib.ListN.{length, length-take, length-drop}
use Rattle.refusal.specs.Lent.{over}
use Rattle.trcf.specs.Transformer.{inverted}
use Rattle.trcf.specs.Settings.{transformer}
use Rattle.trcf.specs.Preprocessor.{block_from}
use Rattle.trcf.specs.View.{settings_of}
use Rattle.trcf.proofs.DrainLaws.{block_in, block_cut}
use Rattle.trcf.proofs.OutputLaws.{inverted_free}
use Rattle.trcf.proofs.LearnLaws.{wide}
use Rattle.trcf_learn.proofs.learn.write_anomaly.Goals as goal

pub overflow_sub-b : goal.overflow_sub-b
overflow_sub-b c = omega arith

pub overflow_sub-b-2 : goal.overflow_sub-b-2
overflow_sub-b-2 c = omega arith

pub overflow_mul-b : goal.overflow_mul-b
overflow_mul-b c =
    let a = c.args in
    let h = a.head in
    let d = h.transformer.input_length in
    let k = h.shingle_size in
    let m = length a.expected.now in
    block_at (a.head.shingle_size - 1 - a.back) k d m (place_back h.shingle_size a.back c.requires.back_bound)
    (flat_wide (settings_of h) m c.requires.expected_len) c.well_formed.1.1.1.1.1.0.1

pub overflow_mul-b-2 : goal.overflow_mul-b-2
overflow_mul-b-2 c =
    let a = c.args in
    let h = a.head in
    let d = h.transformer.input_length in
    let k = h.shingle_size in
    let m = length a.expected.now in
    block_at (a.head.shingle_size - 1 - a.back) k d m (place_back h.shingle_size a.back c.requires.back_bound)
    (flat_wide (settings_of h) m c.requires.expected_len) c.well_formed.1.1.1.1.1.0.1

pub overflow_add-b : goal.overflow_add-b
overflow_add-b c =
    let a = c.args in
    let h = a.head in
    let d = h.transformer.input_length in
    let k = h.shingle_size in
    let m = length a.expected.now in
    block_to (a.head.shingle_size - 1 - a.back) k d m (place_back h.shingle_size a.back c.requires.back_bound)
    (flat_wide (settings_of h) m c.requires.expected_len) c.well_formed.1.1.1.1.1.0.1

pub offset_bounds-expected-b : goal.offset_bounds-expected-b
offset_bounds-expected-b c =
    let a = c.args in
    let h = a.head in
    let d = h.transformer.input_length in
    let k = h.shingle_size in
    let m = length a.expected.now in
    block_bytes (a.head.shingle_size - 1 - a.back) k d m (place_back h.shingle_size a.back c.requires.back_bound)
    (flat_wide (settings_of h) m c.requires.expected_len) c.well_formed.1.1.1.1.1.0.1

pub slice_bounds-invert_into-count : goal.slice_bounds-invert_into-count
slice_bounds-invert_into-count c = omega arith

pub slice_bounds-invert_into-start : goal.slice_bounds-invert_into-start
slice_bounds-invert_into-start c =
    let a = c.args in block_start (a.head.shingle_size - 1 - a.back) a.head.transformer.input_length

pub slice_bounds-invert_into-end : goal.slice_bounds-invert_into-end
slice_bounds-invert_into-end c =
    let a = c.args in
    let h = a.head in
    let d = h.transformer.input_length in
    let k = h.shingle_size in
    let m = length a.expected.now in
    block_end (a.head.shingle_size - 1 - a.back) k d m (place_back h.shingle_size a.back c.requires.back_bound)
    (flat_wide (settings_of h) m c.requires.expected_len) c.well_formed.1.1.1.1.1.0.1

pub overflow_mul-b-3 : goal.overflow_mul-b-3
overflow_mul-b-3 c =
    let a = c.args in
    let h = a.head in
    let d = h.transformer.input_length in
    let k = h.shingle_size in
    let m = length a.inputs.now in
    block_at (a.head.shingle_size - 1 - a.back) k d m (place_back h.shingle_size a.back c.requires.back_bound)
    (flat_turned k d m c.requires.exact.all_input) c.well_formed.1.1.0.1

pub overflow_mul-b-4 : goal.overflow_mul-b-4
overflow_mul-b-4 c =
    let a = c.args in
    let h = a.head in
    let d = h.transformer.input_length in
    let k = h.shingle_size in
    let m = length a.inputs.now in
    block_at (a.head.shingle_size - 1 - a.back) k d m (place_back h.shingle_size a.back c.requires.back_bound)
    (flat_turned k d m c.requires.exact.all_input) c.well_formed.1.1.0.1

pub overflow_add-b-2 : goal.overflow_add-b-2
overflow_add-b-2 c =
    let a = c.args in
    let h = a.head in
    let d = h.transformer.input_length in
    let k = h.shingle_size in
    let m = length a.inputs.now in
    block_to (a.head.shingle_size - 1 - a.back) k d m (place_back h.shingle_size a.back c.requires.back_bound)
    (flat_turned k d m c.requires.exact.all_input) c.well_formed.1.1.0.1

pub offset_bounds-inputs-b : goal.offset_bounds-inputs-b
offset_bounds-inputs-b c =
    let a = c.args in
    let h = a.head in
    let d = h.transformer.input_length in
    let k = h.shingle_size in
    let m = length a.inputs.now in
    block_bytes (a.head.shingle_size - 1 - a.back) k d m (place_back h.shingle_size a.back c.requires.back_bound)
    (flat_turned k d m c.requires.exact.all_input) c.well_formed.1.1.0.1

pub slice_bounds-invert_into-count-2 : goal.slice_bounds-invert_into-count-2
slice_bounds-invert_into-count-2 c = omega arith

pub slice_bounds-invert_into-start-2 : goal.slice_bounds-invert_into-start-2
slice_bounds-invert_into-start-2 c =
    let a = c.args in block_start (a.head.shingle_size - 1 - a.back) a.head.transformer.input_length

pub slice_bounds-invert_into-end-2 : goal.slice_bounds-invert_into-end-2
slice_bounds-invert_into-end-2 c =
    let a = c.args in
    let h = a.head in
    let d = h.transformer.input_length in
    let k = h.shingle_size in
    let m = length a.inputs.now in
    block_end (a.head.shingle_size - 1 - a.back) k d m (place_back h.shingle_size a.back c.requires.back_bound)
    (flat_turned k d m c.requires.exact.all_input) c.well_formed.1.1.0.1

pub offset_bounds-times-b : goal.offset_bounds-times-b
offset_bounds-times-b c =
    let a = c.args in
    let h = a.head in
    let q = c.requires in
    let d = h.transformer.input_length in
    let k = h.shingle_size in
    let c2 = mul_comm d k in
    let m = mul-le-mul q.bounded.d_few q.bounded.k_few in
    let b = block_in (k - 1 - a.back) k d (omega (arith, q)) in
    let w = wide (settings_of h) in
    omega (arith, q, q.exact)

pub bounds-times-b : goal.bounds-times-b
bounds-times-b c =
    let a = c.args in let h = a.head in let q = c.requires in let d = h.transformer.input_length in omega (arith, q, q.exact)

pub returns : goal.returns
unfolding block_from
returns c =
    let a = c.args in
    let h = a.head in
    let q = c.requires in
    let d = h.transformer.input_length in
    let n = h.shingle_size - 1 - a.back in record {
      value = refl;
      past_out_after = c.write_past.ensures;
      expected_out_after = (passing _ c.invert_into.ensures
          (transform_row_zero {t = h.transformer} (let a = c.args in let h = a.head in let q = c.requires in let d =
          h.transformer.input_length in let k = h.shingle_size in let c2 = mul_comm d k in let m = mul-le-mul q.bounded.d_few q.bounded.k_few in let b = block_in (k - 1 - a.back) k d
          (omega (arith, q)) in let w = wide (settings_of h) in (
            record { some = omega (arith, q); few = omega (arith, q); room = omega (arith, q.exact) },
            (simp (length-drop, length-take) (omega (arith, q, q.exact)), (simp (length-drop, length-take) (omega (arith, q, q.exact)), omega (arith, q))),
          )))) ∙ ap (over a.expected_out.now)
          (inverted_free h a.s.now _ _ ∙ (λ j. inverted (transformer (settings_of h) 0 a.s.now) (block_cut n d a.expected.now j) (block_cut n d a.inputs.now j)));
    }
