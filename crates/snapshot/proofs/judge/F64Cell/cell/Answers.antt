-- The number of a good field.
use mathlib.Core.Path.{sym}
use Rattle.snapshot.proofs.JudgeLaws.{double_is, double_not}
use Rattle.snapshot.proofs.judge.F64Cell.cell.Goals as goal

pub returns-in_default : goal.returns-in_default
returns-in_default c =
    let n = c.next_field-next in
    sym (double_not c.args.text.now c.args.at n.result n.ensures c.in_default.not-Double)

pub returns : goal.returns
returns c =
    let n = c.next_field-next in
    sym (double_is c.args.text.now c.args.at n.result n.ensures c.in-Double.x c.in-Double.is)
