-- `alignment::next_pair` meets its contract. Invariant: `Skipped`. The measure is what is left of both lists.
use native.Mathlib.Omega.{arith}
use Rattle.series.proofs.AlignmentLaws.Walk.{skipped_none, ended_left, ended_right, found, skipped_left, skipped_right}
use Rattle.series.proofs.alignment.next_pair.Goals as goal

pub loop-i-init : goal.loop-i-init
loop-i-init c = let a = c.args in skipped_none a.tolerance a.left.now a.right.now a.front.left a.front.right

pub returns-then-abs_diff-tolerance : goal.returns-then-abs_diff-tolerance
returns-then-abs_diff-tolerance c =
    let L = c.loop-i in
    let a = c.args in
    found a.tolerance a.left.now a.right.now _ _ L.i L.j L.invariant (omega arith) (omega arith) (omega arith)

pub loop-i-preserved-then-x-y : goal.loop-i-preserved-then-x-y
loop-i-preserved-then-x-y c =
    let L = c.loop-i in
    let a = c.args in
    skipped_left a.tolerance a.left.now a.right.now _ _ L.i L.j L.invariant (omega arith) (omega arith) (omega arith) (omega arith)

pub loop-i-preserved : goal.loop-i-preserved
loop-i-preserved c =
    let L = c.loop-i in
    let a = c.args in
    skipped_right a.tolerance a.left.now a.right.now _ _ L.i L.j L.invariant (omega arith) (omega arith) (omega arith) (omega arith)

pub returns-else-j-right : goal.returns-else-j-right
returns-else-j-right c =
    let L = c.loop-i in
    let a = c.args in
    ended_right a.tolerance a.left.now a.right.now _ _ L.i L.j L.invariant (omega arith)

pub returns-after-loop-i : goal.returns-after-loop-i
returns-after-loop-i c =
    let L = c.loop-i in
    let a = c.args in
    ended_left a.tolerance a.left.now a.right.now _ _ L.i L.j L.invariant (omega arith)
