-- The head's row, those of the drain, or that of what is lent.
use Rattle.std.proofs.Common.{◌≡◌, sym, ◌∙◌}
use Rattle.refusal.specs.declared.Refusal.TheVariants.{NothingToDrain, CounterLimit}
use Rattle.trcf.specs.Calls.{rows, drain}
use Rattle.trcf.specs.Preprocessor.{facts}
use Rattle.trcf.specs.View.{lent_by, settings_of, view}
use Rattle.trcf.proofs.RowLaws.{drain_rows}
use Rattle.trcf_rows.proofs.RowWays.{head_refuses, test_refuses, lent_decides, lent_ready, not_ok}
use Rattle.trcf_rows.proofs.rows.drain_row.Goals as goal

pub returns-in_err-head_row : goal.returns-in_err-head_row
returns-in_err-head_row c =
    let a = c.args in
    let l = lent_by a.lists in
    let x = c.from_residual.ensures.1 in
    record { value = head_refuses a.head l drain _ _ x c.in_err-head_row.ensures.value; ready = not_ok _ _ _ x }

pub returns-then-is_spent : goal.returns-then-is_spent
returns-then-is_spent c =
    let a = c.args in
    let l = lent_by a.lists in
    let q : 15 ≡ rows (settings_of a.head) (facts (view a.head l)) drain = rw (drain_rows a.head l, sym c.is_spent.ensures ∙ c.if-is_spent.true) in
    record { value = test_refuses a.head l drain NothingToDrain c.in_ok-head_row.ensures.value q; ready = tt }

pub returns-then-is_overdue : goal.returns-then-is_overdue
returns-then-is_overdue c =
    let a = c.args in
    let l = lent_by a.lists in
    let q : 18 ≡ rows (settings_of a.head) (facts (view a.head l)) drain =
    rw (drain_rows a.head l, sym c.is_spent.ensures ∙ c.if-is_spent.false, sym c.is_overdue.ensures ∙ c.if-is_overdue.true) in
    record { value = test_refuses a.head l drain CounterLimit c.in_ok-head_row.ensures.value q; ready = tt }

pub returns : goal.returns
returns c =
    let a = c.args in
    let l = lent_by a.lists in
    let o = c.in_ok-head_row.ensures in
    let n = c.lengths.ensures in
    let z = c.lent_row.ensures in
    let q : rows (settings_of a.head) (facts (view a.head l)) drain ≡ 0 =
    rw (drain_rows a.head l, sym c.is_spent.ensures ∙ c.if-is_spent.false, sym c.is_overdue.ensures ∙ c.if-is_overdue.false) in
    record { value = lent_decides a.head l drain _ _ o.value q n z; ready = lent_ready a.head l _ _ o.bounded n z }
