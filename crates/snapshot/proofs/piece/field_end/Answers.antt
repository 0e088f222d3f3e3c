-- `snapshot::piece::field_end` meets its contract. Assumes nothing.
use Prim.Native.Nat.{suc, ◌<◌}
use native.Mathlib.Omega.{arith}
use native.Mathlib.Numerals.{add-one}
use mathlib.Core.Path.{◌≡◌}
use lib.ListN.{length, drop}
use Rattle.snapshot.specs.Steps.Judge.{field_length}
use Rattle.snapshot.proofs.JudgeLaws.{stops, goes, none_left}
use Rattle.snapshot.proofs.piece.field_end.Goals as goal

pub returns-then-text-i-le10 : goal.returns-then-text-i-le10
returns-then-text-i-le10 c =
    let t = c.args.text.now in
    let i = c.loop-i.i in
    let h : i < length t = c.loop-i-test.true in
    omega (arith, c.loop-i.invariant, stops t i h (omega (arith, c.if-text-i-le10.true)))

pub loop-i-preserved : goal.loop-i-preserved
loop-i-preserved c =
    let t = c.args.text.now in
    let i = c.loop-i.i in
    let h : i < length t = c.loop-i-test.true in
    let z : field_length (drop i t) ≡ suc (field_length (drop (suc i) t)) = goes t i h (omega (arith, c.if-text-i-le10.false)) in
    rw (add-one i) (omega (arith, c.loop-i.invariant))

pub returns : goal.returns
returns c = omega (arith, c.loop-i.invariant, none_left c.args.text.now c.loop-i.i c.loop-i-test.false)
