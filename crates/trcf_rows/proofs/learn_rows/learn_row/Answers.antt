-- The last test and what is left after it, by the tests on the way.
use Rattle.std.proofs.Common.{not, ap, sym, ◌∙◌}
use borrow.Author.Tests.{lt-ltb, le-ltb}
use Rattle.trcf.specs.Settings.{block}
use Rattle.trcf.specs.Steps.Rows.{learn_row}
use Rattle.trcf.proofs.LengthLaws.{block_known, dimension_known}
use Rattle.trcf_rows.proofs.learn_rows.learn_row.Goals as goal
use Rattle.trcf_rows.proofs.learn_rows.learn_row.Goals.{then-deviations_out-block_of-via-then-deviations_out-block_of}
use Rattle.trcf_rows.proofs.learn_rows.learn_row.Goals.{then-deviations_out-block_of-via-else-deviations_out-block_of+then-is_anomaly_short}

pub returns-then-deviations_out-block_of : goal.returns-then-deviations_out-block_of
unfolding learn_row block
returns-then-deviations_out-block_of c =
    rw (
      ← (dimension_known c.get_dimension-m.ensures c.requires).0,
      ← (block_known (c.block_of.ensures.value, c.block_of.ensures.upper_bound) c.requires.d_few).0,
      sym c.is_wrong.ensures ∙ c.if-is_wrong.false,
      sym c.is_wrong-else-is_wrong.ensures ∙ c.if-is_wrong-2.false,
      c.is_none.ensures ∙ ap not c.if-is_none.false,
      sym c.is_misplaced.ensures ∙ c.if-is_misplaced.false,
      sym c.is_full.ensures ∙ c.if-is_full.false,
    )
    (elim c.then-deviations_out-block_of.branch [
      | then-deviations_out-block_of-via-then-deviations_out-block_of w ↦ rw (lt-ltb _ _ w.if-deviations_out-block_of.true)
      | then-deviations_out-block_of-via-else-deviations_out-block_of+then-is_anomaly_short w ↦
          rw (le-ltb _ _ w.if-deviations_out-block_of.false, sym w.is_anomaly_short.ensures ∙ w.if-is_anomaly_short.true)
    ])

pub returns : goal.returns
unfolding learn_row block
returns c =
    rw (
      ← (dimension_known c.get_dimension-m.ensures c.requires).0,
      ← (block_known (c.block_of.ensures.value, c.block_of.ensures.upper_bound) c.requires.d_few).0,
      sym c.is_wrong.ensures ∙ c.if-is_wrong.false,
      sym c.is_wrong-else-is_wrong.ensures ∙ c.if-is_wrong-2.false,
      c.is_none.ensures ∙ ap not c.if-is_none.false,
      sym c.is_misplaced.ensures ∙ c.if-is_misplaced.false,
      sym c.is_full.ensures ∙ c.if-is_full.false,
      le-ltb _ _ c.if-deviations_out-block_of.false,
      sym c.is_anomaly_short.ensures ∙ c.if-is_anomaly_short.false,
    )
