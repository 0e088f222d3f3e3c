-- The number of a good field.
use mathlib.Core.Path.{sym}
use Rattle.snapshot.proofs.JudgeLaws.{single_is, single_not}
use Rattle.snapshot.proofs.judge.F32Cell.cell.Goals as goal

pub returns-in_default : goal.returns-in_default
returns-in_default c =
    let n = c.next_field-next in
    sym (single_not c.args.text.now c.args.at n.result n.ensures c.in_default.not-Single)

pub returns : goal.returns
returns c =
    let n = c.next_field-next in
    sym (single_is c.args.text.now c.args.at n.result n.ensures c.in-Single.x c.in-Single.is)
