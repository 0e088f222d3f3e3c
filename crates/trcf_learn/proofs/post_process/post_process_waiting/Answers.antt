-- `trcf_learn::post_process::post_process_waiting` meets its contract: by its callees' promises and the laws of outcomes. Assumes nothing.
use Rattle.trcf.proofs.LengthLaws.{statistics_known}
use mathlib.Core.Path.{sym}
use Prim.Native.Nat.{suc}
use Rattle.std.specs.Prelude.{None}
use lib.Dec.{eqb}
use lib.Seq.{length-take-le}
use native.Mathlib.Numerals.{add-one}
use Rattle.trcf.specs.View.{counting}
use Rattle.trcf.specs.Steps.Learning.{answering}
use Rattle.trcf_learn.proofs.post_process.post_process_waiting.Goals as goal

pub slice_bounds-write_completing-end : goal.slice_bounds-write_completing-end
slice_bounds-write_completing-end c =
    rw (statistics_known c.statistics_length.ensures c.requires.bounded.d_few) (sym (length-take-le _ _ c.requires.head_in_bounds))

pub write_completing-written-requires : goal.write_completing-written-requires
write_completing-written-requires c =
    let q = c.requires in
    let e = statistics_known c.statistics_length.ensures c.requires.bounded.d_few in
    record {
      bounded = q.bounded;
      s_len = rw e (length-take-le _ _ q.head_in_bounds);
      values_seen_bound = q.values_seen_bound;
      head_in_bounds = q.head_in_bounds_2;
    }

pub returns : goal.returns
returns c =
    let h = c.args.head in
    let W = rw (statistics_known c.statistics_length.ensures c.requires.bounded.d_few) at c.write_completing-written.ensures in
    let H = c.hold.ensures in record {
      value = (rw W.value (λ j. answering (counting h h.transformer.count (add-one h.values_seen j) h.internal_timestamp (add-one h.initial_len j))
          (eqb (suc h.values_seen) h.start_normalization) None));
      initial_values_after = H.initial_values_after;
      initial_timestamps_after = H.initial_timestamps_after;
      deviations_out_after = W.output_after;
    }
