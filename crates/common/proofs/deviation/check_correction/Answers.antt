-- `common::deviation::check_correction` meets its contract: every row is 26, so a refused return shows its own test alone, and the last one all of them. Assumes nothing.
use Rattle.std.proofs.Common.{ℕ, ◌^◌, ◌≤◌, T, pos, arith, le→leb, le-ltb}
use borrow.Author.Tests.{not-false}
use lib.Ieee.{binary64, in_float}
use Rattle.common.proofs.CorrectedRows.{passed_rows, told, by_decay, by_wrong, by_right, by_none, by_many, by_weight, by_sum, by_squares, by_negative}
use Rattle.common.proofs.deviation.check_correction.Goals as goal

-- every whole number up to 2 ^ 53 is an f64
counts : (n : ℕ) → n ≤ 2 ^ 53 → T (in_float binary64 (pos n))
unfolding in_float
counts n h = le→leb n (2 ^ 53) h

pub returns-then-not-s : goal.returns-then-not-s
returns-then-not-s c = by_decay _ _ _ (cc)

pub returns-then-not-whole_within : goal.returns-then-not-whole_within
returns-then-not-whole_within c = by_wrong _ _ _ c.whole_within.ensures (cc)

pub returns-then-not-whole_within-2 : goal.returns-then-not-whole_within-2
returns-then-not-whole_within-2 c = by_right _ _ _ c.whole_within-2.ensures (cc)

pub returns-then-count-lt1 : goal.returns-then-count-lt1
returns-then-count-lt1 c = by_none _ _ _ c.if-count-lt1.true

pub returns-then-count-gt-LENGTH_LIMIT : goal.returns-then-count-gt-LENGTH_LIMIT
returns-then-count-gt-LENGTH_LIMIT c = by_many _ _ _ c.if-count-gt-LENGTH_LIMIT.true

pub int_to_float-count : goal.int_to_float-count
int_to_float-count c = counts _ (omega arith)

pub returns-then-not-s-count : goal.returns-then-not-s-count
returns-then-not-s-count c = by_weight _ _ _ (cc)

pub returns-then-not-whole_within-3 : goal.returns-then-not-whole_within-3
returns-then-not-whole_within-3 c = by_sum _ _ _ c.whole_within-3.ensures (cc)

pub returns-then-not-whole_within-4 : goal.returns-then-not-whole_within-4
returns-then-not-whole_within-4 c = by_squares _ _ _ c.whole_within-4.ensures (cc)

pub returns-then-not-s-2 : goal.returns-then-not-s-2
returns-then-not-s-2 c = by_negative _ _ _ (cc)

pub returns : goal.returns
returns c =
    let e8 = c in
    let e7 = c in
    let e6 = c in
    let e5 = c in
    let e4 = c in
    let e3 = c in
    let e2 = c in
    let e1 = c in
    passed_rows _ _ _
    (record {
      decay = not-false _ (cc);
      wrong_whole = told c.whole_within.ensures (cc);
      right_whole = told c.whole_within-2.ensures (cc);
      some = le-ltb _ _ c.if-count-lt1.false;
      few = le-ltb _ _ c.if-count-gt-LENGTH_LIMIT.false;
      weighed = not-false _ (cc);
      sum_whole = told c.whole_within-3.ensures (cc);
      squares_whole = told c.whole_within-4.ensures (cc);
      squares_up = not-false _ (cc);
    })
