-- `trcf_learn::post_process::post_process_learning` meets its contract: by its callees' promises and the laws of outcomes. Assumes nothing.
use Rattle.trcf.proofs.LengthLaws.{statistics_known, opened, output_fits_lem}
use native.Mathlib.Omega.{arith}
use mathlib.Core.Path.{◌≡◌, sym, ap, ◌∙◌}
use Prim.Native.Nat.{◌*◌}
use lib.ListN.{length, length-take, take}
use mathlib.Core.Bool.{true}
use mathlib.Core.List.{List, []}
use lib.Ieee.{Float}
use lib.Seq.{length-take-le}
use native.Mathlib.Numerals.{add-one}
use Rattle.refusal.specs.Lent.{over}
use Rattle.trcf.specs.Preprocessor.{statistics_length, deviations}
use Rattle.trcf.specs.View.{settings_of, counting, holding}
use Rattle.trcf.specs.Steps.Learning.{answering, learn_parts, learned_statistics}
use Rattle.trcf.proofs.DrainLaws.{front_over}
use Rattle.trcf.proofs.LearnLaws.{learned_length}
use Rattle.trcf_learn.proofs.post_process.post_process_learning.Goals as goal

pub slice_bounds-write_found-end-2 : goal.slice_bounds-write_found-end-2
slice_bounds-write_found-end-2 c =
    rw (statistics_known c.statistics_length.ensures c.requires.bounded.d_few) (sym (length-take-le _ _ c.requires.head_in_bounds))

pub write_found-anomaly-requires : goal.write_found-anomaly-requires
write_found-anomaly-requires c =
    let q = c.requires in
    let e = statistics_known c.statistics_length.ensures c.requires.bounded.d_few in
    record {
      bounded = q.bounded;
      exact = record {
        all_statistics = rw e (length-take-le _ _ q.head_in_bounds);
        all_input = length-take-le _ _ q.shingle_size_in_bounds;
        all_times = length-take-le _ _ q.shingle_size_in_bounds_2;
      };
      input_len = q.input_len;
      findable = q.learnable.found;
    }

pub update_shingles-requires : goal.update_shingles-requires
update_shingles-requires c =
    let q = c.requires in
    record {
      bounded = q.bounded;
      head_in_bounds = q.head_in_bounds;
      shingle_size_in_bounds = q.shingle_size_in_bounds;
      head_in_bounds_2 = q.head_in_bounds_2;
      shingle_size_in_bounds_2 = q.shingle_size_in_bounds_2;
      input_len = q.input_len;
      y_len = q.learnable.all_y;
      count_lt_count_limit = q.learnable.count_room;
    }

pub slice_bounds-write_deviations-end-2 : goal.slice_bounds-write_deviations-end-2
slice_bounds-write_deviations-end-2 c =
    simp length-take (omega (arith, c.update_shingles.auto, c.requires.head_in_bounds, statistics_known c.statistics_length-2.ensures c.requires.bounded.d_few))

pub next_count-count-requires : goal.next_count-count-requires
next_count-count-requires c =
    c.requires.learnable.count_room

pub returns : goal.returns
returns c =
    let a = c.args in
    let h = a.head in
    let q = c.requires in
    let s = settings_of h in
    let n = statistics_length s in
    let S = learned_statistics h (take n a.statistics.now) (take (h.transformer.input_length * h.shingle_size) a.last_shingled_input.now)
    (take h.shingle_size a.previous_timestamps.now) a.input.now a.timestamp in
    let e : length S ≡ n = learned_length h _ _ _ _ _ ∙ length-take-le n a.statistics.now q.head_in_bounds in
    let F = rw (statistics_known c.statistics_length.ensures c.requires.bounded.d_few) at c.write_found-anomaly.ensures in
    let U = c.update_shingles.ensures in
    let W = c.with_counts.ensures ∙ (λ j. counting h (c.next_count-count.ensures j) (add-one h.values_seen j) (add-one h.internal_timestamp j) h.initial_len) in
    let G = opened _ (rw (statistics_known c.statistics_length-2.ensures c.requires.bounded.d_few) at c.write_deviations.ensures)
    (output_fits_lem (q.bounded, (length-take-le _ _ (omega (arith, c.update_shingles.auto, q.head_in_bounds)), q.learnable.deviations_room)))
    ∙ ap (λ (u : List Float). over a.deviations_out.now (deviations (holding h u [] []))) (ap (take n) U.statistics_after ∙ front_over a.statistics.now S n e) in
    λ j. learn_parts (answering (W j) true (F.value j)) (U.statistics_after j) (U.last_shingled_input_after j) (U.last_shingled_point_after j)
    (U.previous_timestamps_after j) (G j) (F.past_out_after j) (F.expected_out_after j)
