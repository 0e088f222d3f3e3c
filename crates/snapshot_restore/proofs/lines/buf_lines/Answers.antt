-- `snapshot_restore::lines::buf_lines` meets its contract. Assumes nothing.
use native.Mathlib.Omega.{arith}
use lib.ListN.{drop}
use Rattle.trcf.specs.Preprocessor.{reading}
use Rattle.snapshot.proofs.RunLaws.{bufs_few, block_room, bufs_none, bufs_step, bufs_stop, bufs_done}
use Rattle.snapshot_restore.proofs.lines.buf_lines.Goals as goal

pub loop-i-init : goal.loop-i-init
loop-i-init c =
    let a = c.args in
    bufs_none a.d a.n (drop a.at a.text.now) a.values.now a.times.now (omega arith) (omega arith) (omega arith) (omega arith)

pub overflow_mul-from : goal.overflow_mul-from
overflow_mul-from c =
    let a = c.args in
    let L = c.loop-i in
    let h = bufs_few a.d a.n (drop a.at a.text.now) L.values L.times L.i L.past (drop L.p a.text.now) L.invariant
    (omega (arith, L.invariant.so.ahead.some_left_lem, c.loop-i-test.true)) in
    omega (arith, h)

pub overflow_add-from : goal.overflow_add-from
overflow_add-from c =
    let a = c.args in
    let L = c.loop-i in
    let h = bufs_few a.d a.n (drop a.at a.text.now) L.values L.times L.i L.past (drop L.p a.text.now) L.invariant
    (omega (arith, L.invariant.so.ahead.some_left_lem, c.loop-i-test.true)) in
    omega (arith, h)

pub slice_bounds-buf_line-count : goal.slice_bounds-buf_line-count
slice_bounds-buf_line-count c = omega arith

pub slice_bounds-buf_line-end : goal.slice_bounds-buf_line-end
slice_bounds-buf_line-end c =
    let a = c.args in
    let L = c.loop-i in
    block_room a.d L.i a.n L.values L.invariant.long (omega (arith, L.invariant.so.ahead.some_left_lem, c.loop-i-test.true))

pub loop-i-preserved : goal.loop-i-preserved
loop-i-preserved c =
    let a = c.args in
    let L = c.loop-i in
    let b = c.buf_line in
    bufs_step a.d a.n (drop a.at a.text.now) L.values L.times L.i L.past (drop L.p a.text.now) L.invariant (omega (arith, L.invariant.so.ahead.some_left_lem))
    (reading b.new.out c.in-Some.line.time) (drop c.in-Some.line.end a.text.now) b.ensures.kept
    (c.in-Some.ensures.told)

pub returns-after-loop-i : goal.returns-after-loop-i
returns-after-loop-i c =
    let a = c.args in
    let L = c.loop-i in
    bufs_done a.d a.n (drop a.at a.text.now) L.values L.times L.i L.past (drop L.p a.text.now) L.invariant (omega (arith, c.loop-i.invariant, c.loop-i-test.false))

pub returns-in_default : goal.returns-in_default
returns-in_default c =
    let a = c.args in
    let L = c.loop-i in
    let b = c.buf_line in
    bufs_stop a.d a.n (drop a.at a.text.now) L.values L.times L.i L.past (drop L.p a.text.now) L.invariant (omega (arith, L.invariant.so.ahead.some_left_lem))
    (c.in_default.ensures.told)
