-- `trcf_learn::learn::hold` meets its contract: by its callees' promises and the laws of lists. Assumes nothing.
use Rattle.trcf.proofs.LengthLaws.{roomy}
use native.Mathlib.Omega.{arith}
use mathlib.Core.Path.{◌∙◌}
use Prim.Native.Nat.{◌*◌}
use native.Mathlib.Nat.{mul-le-mul, le_refl}
use Rattle.trcf.proofs.DrainLaws.{block_in}
use Rattle.trcf.proofs.ShingleLaws.{paste_behind, set_behind}
use Rattle.trcf_learn.proofs.learn.hold.Goals as goal

pub overflow_mul-n : goal.overflow_mul-n
overflow_mul-n c =
    let a = c.args in
    let h = a.head in
    let q = c.requires in
    let d = h.transformer.input_length in
    let b = block_in h.initial_len h.start_normalization d q.initial_len_bound in
    let m = mul-le-mul (le_refl h.start_normalization) q.bounded.d_few in
    omega (arith, q.bounded)

pub offset_bounds-initial_timestamps-n : goal.offset_bounds-initial_timestamps-n
offset_bounds-initial_timestamps-n c = omega arith

pub returns : goal.returns
returns c =
    let a = c.args in
    let h = a.head in
    let q = c.requires in
    let d = h.transformer.input_length in
    let b = block_in h.initial_len h.start_normalization d q.initial_len_bound in record {
      initial_values_after = (roomy _ c.copy_in.ensures
          (let a = c.args in let h = a.head in let q = c.requires in let d = h.transformer.input_length in let b = block_in h.initial_len h.start_normalization d
          q.initial_len_bound in omega (arith, q))) ∙ paste_behind a.initial_values.now a.input.now (h.initial_len * d) (omega (arith, q));
      initial_timestamps_after = set_behind a.initial_timestamps.now
          a.timestamp h.initial_len (omega (arith, q));
    }
