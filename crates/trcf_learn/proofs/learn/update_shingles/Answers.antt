-- `trcf_learn::learn::update_shingles` meets its contract: by its callees' promises and the laws of lists. Assumes nothing.
use Rattle.trcf.proofs.LengthLaws.{statistics_known, roomy}
use native.Mathlib.Omega.{arith}
use mathlib.Core.Path.{sym, ap, ◌∙◌}
use native.Mathlib.Nat.{le-mul_of_pos_right}
use lib.ListN.{length-take}
use lib.Seq.{length-take-le}
use Rattle.refusal.specs.Lent.{over}
use Rattle.trcf.proofs.ShingleLaws.{over_part, paste_over}
use borrow.Author.Rules.{rules}
use Rattle.trcf_learn.proofs.learn.update_shingles.Goals as goal

pub slice_bounds-feed_newest-end-2 : goal.slice_bounds-feed_newest-end-2
slice_bounds-feed_newest-end-2 c =
    rw (statistics_known c.statistics_length.ensures c.requires.bounded.d_few) (sym (length-take-le _ _ c.requires.head_in_bounds))

pub feed_newest-requires : goal.feed_newest-requires
feed_newest-requires c =
    let q = c.requires in
    let e = statistics_known c.statistics_length.ensures c.requires.bounded.d_few in
    record {
      bounded = q.bounded;
      exact = record {
        all_statistics = rw e (length-take-le _ _ q.head_in_bounds);
        all_input = length-take-le _ _ q.shingle_size_in_bounds;
        all_times = length-take-le _ _ q.shingle_size_in_bounds_2;
      };
      input_len = q.input_len;
      count_lt_count_limit = q.count_lt_count_limit;
    }

pub returns : goal.returns
returns c =
    let a = c.args in
    let q = c.requires in
    let e = statistics_known c.statistics_length.ensures c.requires.bounded.d_few in
    let m = le-mul_of_pos_right a.head.transformer.input_length q.bounded.k_pos in
    record {
      statistics_after = rw e
          (over_part a.statistics.now _ _ (c.feed_newest.auto.s ∙ rw e (length-take-le _ _ q.head_in_bounds))
          ∙ ap (over a.statistics.now) (rw e at c.feed_newest.ensures));
      last_shingled_input_after = over_part a.last_shingled_input.now _ _ (c.shift_in.auto.s ∙ length-take-le _ _ q.shingle_size_in_bounds)
          ∙ ap (over a.last_shingled_input.now) (roomy _ c.shift_in.ensures (simp length-take (omega (arith, q))));
      last_shingled_point_after = roomy _ c.copy_in.ensures (search rules) ∙ paste_over _ _;
      previous_timestamps_after = over_part a.previous_timestamps.now _ _ (c.shift_in-2.auto.s ∙ length-take-le _ _ q.shingle_size_in_bounds_2)
          ∙ ap (over a.previous_timestamps.now) (roomy _ c.shift_in-2.ensures (simp length-take (omega (arith, q, q.bounded))));
    }
