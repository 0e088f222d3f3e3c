-- The number of a good field.
use mathlib.Core.Path.{sym}
use Rattle.snapshot.proofs.JudgeLaws.{whole_is, whole_not}
use Rattle.snapshot.proofs.judge.U64Cell.cell.Goals as goal

pub returns-in_default : goal.returns-in_default
returns-in_default c =
    let n = c.next_field-next in
    sym (whole_not c.args.text.now c.args.at n.result n.ensures c.in_default.not-Whole)

pub returns : goal.returns
returns c =
    let n = c.next_field-next in
    sym (whole_is c.args.text.now c.args.at n.result n.ensures c.in-Whole.x c.in-Whole.is)
