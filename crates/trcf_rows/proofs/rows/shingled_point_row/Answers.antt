-- The head's row, those of the point, or that of what is lent.
use Rattle.std.proofs.Common.{◌≡◌, sym, ◌∙◌}
use borrow.Author.Tests.{eq-eqb, ne_eqb}
use Rattle.refusal.specs.declared.Refusal.TheVariants.{InputLength, NotFinite, GapFalls}
use Rattle.trcf.specs.Calls.{rows, shingled_point}
use Rattle.trcf.specs.Preprocessor.{facts}
use Rattle.trcf.specs.View.{lent_by, settings_of, view}
use Rattle.trcf.proofs.RowLaws.{point_rows}
use Rattle.trcf_rows.proofs.NewestLaws.{behind_is}
use Rattle.trcf_rows.proofs.RowWays.{head_refuses, call_refuses, test_refuses, lent_decides, lent_ready, not_ok}
use Rattle.trcf_rows.proofs.rows.shingled_point_row.Goals as goal

pub returns-in_err-head_row : goal.returns-in_err-head_row
returns-in_err-head_row c =
    let a = c.args in
    let l = lent_by a.lists in
    let p = shingled_point a.input.now a.timestamp a.output.now in
    let x = c.from_residual.ensures.1 in
    record { value = head_refuses a.head l p _ _ x c.in_err-head_row.ensures.value; ready = not_ok _ _ _ x }

pub returns-then-input-head : goal.returns-then-input-head
returns-then-input-head c =
    let a = c.args in
    let l = lent_by a.lists in
    let p = shingled_point a.input.now a.timestamp a.output.now in
    let q : 10 ≡ rows (settings_of a.head) (facts (view a.head l)) p = rw (point_rows a.head l a.input.now a.timestamp a.output.now, ne_eqb _ _ c.if-input-head.true) in
    record { value = test_refuses a.head l p InputLength c.in_ok-head_row.ensures.value q; ready = tt }

pub returns-then-not-all_finite : goal.returns-then-not-all_finite
returns-then-not-all_finite c =
    let a = c.args in
    let l = lent_by a.lists in
    let p = shingled_point a.input.now a.timestamp a.output.now in
    let q : 11 ≡ rows (settings_of a.head) (facts (view a.head l)) p =
    rw (point_rows a.head l a.input.now a.timestamp a.output.now, eq-eqb _ _ c.if-input-head.false, sym c.all_finite.ensures ∙ c.if-not-all_finite.true) in
    record { value = test_refuses a.head l p NotFinite c.in_ok-head_row.ensures.value q; ready = tt }

pub returns-then-is_behind : goal.returns-then-is_behind
returns-then-is_behind c =
    let a = c.args in
    let l = lent_by a.lists in
    let p = shingled_point a.input.now a.timestamp a.output.now in
    let b = behind_is a.head l a.timestamp c.is_behind.result c.newest_of-newest.result c.is_behind.ensures c.newest_of-newest.ensures in
    let q : 28 ≡ rows (settings_of a.head) (facts (view a.head l)) p =
    rw (point_rows a.head l a.input.now a.timestamp a.output.now, eq-eqb _ _ c.if-input-head.false, sym c.all_finite.ensures ∙ c.if-not-all_finite.false, sym b ∙ c.if-is_behind.true) in
    record { value = test_refuses a.head l p GapFalls c.in_ok-head_row.ensures.value q; ready = tt }

pub returns-in_err-past_row : goal.returns-in_err-past_row
returns-in_err-past_row c =
    let a = c.args in
    let l = lent_by a.lists in
    let p = shingled_point a.input.now a.timestamp a.output.now in
    let b = behind_is a.head l a.timestamp c.is_behind.result c.newest_of-newest.result c.is_behind.ensures c.newest_of-newest.ensures in
    let x = c.from_residual-in_err-past_row.ensures.1 in
    record {
      value = call_refuses a.head l p _ _ x c.in_ok-head_row.ensures.value
          (rw (point_rows a.head l a.input.now a.timestamp a.output.now, eq-eqb _ _ c.if-input-head.false, sym c.all_finite.ensures ∙ c.if-not-all_finite.false, sym b ∙ c.if-is_behind.false)
          c.in_err-past_row.ensures);
      ready = not_ok _ _ _ x;
    }

pub returns : goal.returns
returns c =
    let a = c.args in
    let l = lent_by a.lists in
    let p = shingled_point a.input.now a.timestamp a.output.now in
    let b = behind_is a.head l a.timestamp c.is_behind.result c.newest_of-newest.result c.is_behind.ensures c.newest_of-newest.ensures in
    let o = c.in_ok-head_row.ensures in
    let n = c.lengths.ensures in
    let z = c.lent_row.ensures in
    let q : rows (settings_of a.head) (facts (view a.head l)) p ≡ 0 =
    rw (point_rows a.head l a.input.now a.timestamp a.output.now, eq-eqb _ _ c.if-input-head.false, sym c.all_finite.ensures ∙ c.if-not-all_finite.false, sym b ∙ c.if-is_behind.false)
    (sym c.in_ok-past_row.ensures) in
    record { value = lent_decides a.head l p _ _ o.value q n z; ready = lent_ready a.head l _ _ o.bounded n z }
