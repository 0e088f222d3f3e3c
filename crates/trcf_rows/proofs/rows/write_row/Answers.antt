-- The head's row, that of the output, or that of what is lent.
use Rattle.std.proofs.Common.{◌≡◌, ◌≤◌, length}
use borrow.Author.Tests.{lt-ltb, le-ltb}
use Rattle.refusal.specs.declared.Refusal.TheVariants.{TooShort}
use Rattle.trcf.specs.Settings.{block}
use Rattle.trcf.specs.Calls.{rows, table, scale}
use Rattle.trcf.specs.Preprocessor.{facts}
use Rattle.trcf.specs.View.{lent_by, settings_of, view}
use Rattle.trcf.proofs.LengthLaws.{block_known}
use Rattle.trcf_rows.proofs.RowWays.{head_refuses, test_refuses, lent_decides, lent_ready, not_ok, when_ok}
use Rattle.trcf_rows.proofs.rows.write_row.Goals as goal

pub returns-in_err-head_row : goal.returns-in_err-head_row
returns-in_err-head_row c =
    let a = c.args in
    let l = lent_by a.lists in
    let x = c.from_residual.ensures.1 in
    record { value = head_refuses a.head l (scale a.output.now) _ _ x c.in_err-head_row.ensures.value; ready = not_ok _ _ _ x; head_in_bounds = not_ok _ _ _ x }

pub returns-then-output-n : goal.returns-then-output-n
unfolding rows table block
returns-then-output-n c =
    let a = c.args in
    let l = lent_by a.lists in
    let o = c.in_ok-head_row.ensures in
    let k = (block_known (c.block_of-n.ensures.value, c.block_of-n.ensures.upper_bound) o.bounded.d_few).0 in
    let q : 20 ≡ rows (settings_of a.head) (facts (view a.head l)) (scale a.output.now) = rw (← k, lt-ltb _ _ c.if-output-n.true) in
    record { value = test_refuses a.head l (scale a.output.now) TooShort o.value q; ready = tt; head_in_bounds = tt }

pub returns : goal.returns
unfolding rows table block
returns c =
    let a = c.args in
    let l = lent_by a.lists in
    let o = c.in_ok-head_row.ensures in
    let n = c.lengths.ensures in
    let z = c.lent_row.ensures in
    let k = (block_known (c.block_of-n.ensures.value, c.block_of-n.ensures.upper_bound) o.bounded.d_few).0 in
    let q : rows (settings_of a.head) (facts (view a.head l)) (scale a.output.now) ≡ 0 = rw (← k, le-ltb _ _ c.if-output-n.false) in
    record {
      value = lent_decides a.head l (scale a.output.now) _ _ o.value q n z;
      ready = lent_ready a.head l _ _ o.bounded n z;
      head_in_bounds = when_ok (block (settings_of a.head) ≤ length a.output.now) _ (rw (← k) c.if-output-n.false);
    }
