-- `snapshot::field::hex` meets its contract. Assumes nothing.
use Prim.Native.Nat.{◌≤◌, ◌<◌}
use native.Mathlib.Omega.{arith}
use native.Mathlib.Numerals.{add-one}
use mathlib.Core.Logic.{inl, inr}
use lib.ListN.{length}
use Rattle.snapshot.proofs.HexLaws.{Larger, told_first, told_next, room, hnone_at, hsome_at}
use Rattle.snapshot.proofs.field.hex.Goals as goal
use Rattle.snapshot.proofs.field.hex.Goals.{then-largest-d, else-largest-d}

pub loop-x-init : goal.loop-x-init
loop-x-init c = told_first c.args.c.now

pub overflow_mul-n : goal.overflow_mul-n
overflow_mul-n c =
    omega (arith, room c.args.c.now c.loop-x.n c.loop-x.largest c.loop-x.x-index c.requires c.loop-x-test.true c.loop-x.invariant)

pub overflow_add-n : goal.overflow_add-n
overflow_add-n c =
    omega (arith, room c.args.c.now c.loop-x.n c.loop-x.largest c.loop-x.x-index c.requires c.loop-x-test.true c.loop-x.invariant)

pub loop-x-preserved : goal.loop-x-preserved
loop-x-preserved c =
    let v = c.args.c.now in
    let s = c.loop-x in
    let d = c.digit-d in
    let h : s.x-index < length v = c.loop-x-test.true in
    let w : Larger s.largest d.result c.if-largest-d.largest = elim c.if-largest-d.branch [
      | then-largest-d w ↦ inl (
        w.if-largest-d.true,
        w.largest-is,
      )
      | else-largest-d w ↦ inr (w.if-largest-d.false, w.largest-is)
    ] in
    let few : length v ≤ 16 = c.requires in
    rw (add-one s.x-index) (told_next v s.n s.x-index d.result s.largest c.if-largest-d.largest few h d.ensures s.invariant w)

pub returns-then-largest-gt15 : goal.returns-then-largest-gt15
returns-then-largest-gt15 c =
    let s = c.loop-x in
    hnone_at c.args.c.now s.n s.largest s.x-index s.invariant c.if-largest-gt15.true

pub returns : goal.returns
returns c =
    let s = c.loop-x in
    hsome_at c.args.c.now s.n s.largest s.x-index s.invariant c.if-largest-gt15.false c.loop-x-test.false
