-- `snapshot::cells::whole` meets its contract. Assumes nothing.
use mathlib.Core.Path.{ap}
use Rattle.snapshot.specs.Read.{as_whole}
use Rattle.snapshot.specs.declared.piece.Next.{Next}
use Rattle.snapshot.proofs.JudgeLaws.{number_is, number_not}
use Rattle.snapshot.proofs.cells.whole.Goals as goal

pub returns-in_default : goal.returns-in_default
returns-in_default c = number_not (as_whole c.args.c.now) c.cell.result.field (ap (λ (r : Next). r.field) c.cell.ensures) c.in_default.not-Whole

pub returns : goal.returns
returns c =
    let at-next-field = c.cell in
    number_is (as_whole c.args.c.now) at-next-field.result.field (ap (λ (r : Next). r.field) at-next-field.ensures)
    c.in-Whole.n c.in-Whole.is
