-- The head's row, those of the transform, or that of what is lent.
use Rattle.std.proofs.Common.{◌≡◌, ◌≤◌, length, sym, ◌∙◌}
use borrow.Author.Tests.{lt-ltb, le-ltb, eq-eqb, ne_eqb}
use Rattle.refusal.specs.declared.Refusal.TheVariants.{InputLength, GapFalls, TooShort}
use Rattle.trcf.specs.Settings.{block}
use Rattle.trcf.specs.Calls.{rows, table, transform}
use Rattle.trcf.specs.Preprocessor.{facts}
use Rattle.trcf.specs.View.{lent_by, settings_of, view}
use Rattle.trcf.proofs.LengthLaws.{block_known}
use Rattle.trcf_rows.proofs.NewestLaws.{behind_is}
use Rattle.trcf_rows.proofs.RowWays.{head_refuses, test_refuses, lent_decides, lent_ready, not_ok, when_ok}
use Rattle.trcf_rows.proofs.rows.transform_row.Goals as goal

pub returns-in_err-head_row : goal.returns-in_err-head_row
returns-in_err-head_row c =
    let a = c.args in
    let l = lent_by a.lists in
    let p = transform a.input.now a.timestamp a.output.now in
    let x = c.from_residual.ensures.1 in
    record { value = head_refuses a.head l p _ _ x c.in_err-head_row.ensures.value; ready = not_ok _ _ _ x; input_len = not_ok _ _ _ x; head_in_bounds = not_ok _ _ _ x }

pub returns-then-input-d : goal.returns-then-input-d
unfolding rows table
returns-then-input-d c =
    let a = c.args in
    let l = lent_by a.lists in
    let p = transform a.input.now a.timestamp a.output.now in
    let q : 10 ≡ rows (settings_of a.head) (facts (view a.head l)) p = rw (ne_eqb _ _ c.if-input-d.true) in
    record { value = test_refuses a.head l p InputLength c.in_ok-head_row.ensures.value q; ready = tt; input_len = tt; head_in_bounds = tt }

pub returns-then-is_behind : goal.returns-then-is_behind
unfolding rows table
returns-then-is_behind c =
    let a = c.args in
    let l = lent_by a.lists in
    let p = transform a.input.now a.timestamp a.output.now in
    let b = behind_is a.head l a.timestamp c.is_behind.result c.newest_of-newest.result c.is_behind.ensures c.newest_of-newest.ensures in
    let q : 28 ≡ rows (settings_of a.head) (facts (view a.head l)) p = rw (eq-eqb _ _ c.if-input-d.false, sym b ∙ c.if-is_behind.true) in
    record { value = test_refuses a.head l p GapFalls c.in_ok-head_row.ensures.value q; ready = tt; input_len = tt; head_in_bounds = tt }

pub returns-then-output-n : goal.returns-then-output-n
unfolding rows table block
returns-then-output-n c =
    let a = c.args in
    let l = lent_by a.lists in
    let p = transform a.input.now a.timestamp a.output.now in
    let o = c.in_ok-head_row.ensures in
    let b = behind_is a.head l a.timestamp c.is_behind.result c.newest_of-newest.result c.is_behind.ensures c.newest_of-newest.ensures in
    let k = (block_known (c.block_of-n.ensures.value, c.block_of-n.ensures.upper_bound) o.bounded.d_few).0 in
    let q : 20 ≡ rows (settings_of a.head) (facts (view a.head l)) p =
    rw (eq-eqb _ _ c.if-input-d.false, sym b ∙ c.if-is_behind.false, ← k, lt-ltb _ _ c.if-output-n.true) in
    record { value = test_refuses a.head l p TooShort o.value q; ready = tt; input_len = tt; head_in_bounds = tt }

pub returns : goal.returns
unfolding rows table block
returns c =
    let a = c.args in
    let l = lent_by a.lists in
    let p = transform a.input.now a.timestamp a.output.now in
    let o = c.in_ok-head_row.ensures in
    let n = c.lengths.ensures in
    let z = c.lent_row.ensures in
    let b = behind_is a.head l a.timestamp c.is_behind.result c.newest_of-newest.result c.is_behind.ensures c.newest_of-newest.ensures in
    let k = (block_known (c.block_of-n.ensures.value, c.block_of-n.ensures.upper_bound) o.bounded.d_few).0 in
    let q : rows (settings_of a.head) (facts (view a.head l)) p ≡ 0 =
    rw (eq-eqb _ _ c.if-input-d.false, sym b ∙ c.if-is_behind.false, ← k, le-ltb _ _ c.if-output-n.false) in
    record {
      value = lent_decides a.head l p _ _ o.value q n z;
      ready = lent_ready a.head l _ _ o.bounded n z;
      input_len = when_ok (length a.input.now ≡ a.head.transformer.input_length) _ c.if-input-d.false;
      head_in_bounds = when_ok (block (settings_of a.head) ≤ length a.output.now) _ (rw (← k) c.if-output-n.false);
    }
