-- `imputation::passed` meets its contract: by the mark. Assumes nothing.
use Prim.Native.Nat.{◌+◌, ◌*◌}
use lib.ListN.{get_or}
use mathlib.Core.Path.{◌≡◌, ap}
use native.Mathlib.Omega.{arith}
use borrow.Author.Tests.{eq-eqb, ne_eqb}
use Rattle.series.specs.Steps.ImputationSteps.{passing, passed_of}
use Rattle.series.proofs.imputation.passed.Goals as goal

pub returns-then-marks-at-ne0 : goal.returns-then-marks-at-ne0
unfolding passed_of
returns-then-marks-at-ne0 c =
    let mark = get_or c.args.marks.now (c.args.i * c.args.ch.d + c.args.ch.c) 0 in
    let n : mark ≡ 0 → ⊥ = λ e. omega (arith, c.if-marks-at-ne0.true) in
    rw (ne_eqb mark 0 n)

pub returns : goal.returns
unfolding passed_of
returns c =
    let mark = get_or c.args.marks.now (c.args.i * c.args.ch.d + c.args.ch.c) 0 in
    let e : mark ≡ 0 = omega (arith, c.if-marks-at-ne0.false) in
    rw (eq-eqb mark 0 e) (ap (passing _) c.fill_gap.ensures)
