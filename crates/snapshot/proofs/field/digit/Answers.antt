-- `snapshot::field::digit` meets its contract. Assumes nothing.
use native.Mathlib.Omega.{arith}
use borrow.Author.Tests.{lt-ltb, le-ltb, le-leb, lt-leb}
use Rattle.snapshot.proofs.field.digit.Goals as goal
use Rattle.snapshot.proofs.field.digit.Goals.{then-b-lt48, else-b-lt48, then-b-gt102, else-b-gt102, then-b-lt97, else-b-lt97}

pub returns-then-b-le57 : goal.returns-then-b-le57
returns-then-b-le57 c =
    elim c.if-b-lt48.branch [
      | then-b-lt48 w ↦ rw (w.low-is, lt-ltb _ _ w.if-b-lt48.true)
      | else-b-lt48 w ↦ rw (w.low-is, le-ltb _ _ w.if-b-lt48.false, le-leb _ _ c.if-b-le57.true)
    ]

pub returns-else-b-le57 : goal.returns-else-b-le57
returns-else-b-le57 c =
    let b = c.args.b in
    elim c.if-b-gt102.branch [
      | then-b-gt102 w ↦ rw (w.letter-is, le-ltb b 48 (omega (arith, c.if-b-le57.false)), lt-leb b 57 c.if-b-le57.false, le-ltb b 97 (omega (arith, w.if-b-gt102.true)), lt-leb b 102 w.if-b-gt102.true)
      | else-b-gt102 w ↦ elim c.if-b-lt97.branch [
        | then-b-lt97 v ↦ rw (w.letter-is, v.high-is, le-ltb b 48 (omega (arith, c.if-b-le57.false)), lt-leb b 57 c.if-b-le57.false, lt-ltb b 97 v.if-b-lt97.true)
        | else-b-lt97 v ↦ rw (w.letter-is, v.high-is, le-ltb b 48 (omega (arith, c.if-b-le57.false)), lt-leb b 57 c.if-b-le57.false, le-ltb b 97 v.if-b-lt97.false, le-leb b 102 w.if-b-gt102.false)
      ]
    ]
