-- The head's row, or that of what is lent.
use Rattle.trcf.specs.View.{lent_by}
use Rattle.trcf_rows.proofs.RowWays.{held_refuses, held_decides, lent_ready, not_ok}
use Rattle.trcf_rows.proofs.rows.held_row.Goals as goal

pub returns-in_err-head_row : goal.returns-in_err-head_row
returns-in_err-head_row c =
    let a = c.args in
    let l = lent_by a.lists in
    let x = c.from_residual.ensures.1 in
    record { value = held_refuses a.head l _ _ x c.in_err-head_row.ensures.value; ready = not_ok _ _ _ x }

pub returns : goal.returns
returns c =
    let a = c.args in
    let l = lent_by a.lists in
    let o = c.in_ok-head_row.ensures in
    let n = c.lengths.ensures in
    let k = c.lent_row.ensures in
    record { value = held_decides a.head l _ _ o.value n k; ready = lent_ready a.head l _ _ o.bounded n k }
