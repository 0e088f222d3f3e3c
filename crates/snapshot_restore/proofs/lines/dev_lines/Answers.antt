-- `snapshot_restore::lines::dev_lines` meets its contract. Assumes nothing.
use native.Mathlib.Omega.{arith}
use lib.ListN.{drop}
use Rattle.snapshot.proofs.RunLaws.{block_room, devs_none, devs_step, devs_stop, devs_done}
use Rattle.snapshot_restore.proofs.lines.dev_lines.Goals as goal

pub loop-i-init : goal.loop-i-init
loop-i-init c =
    let args = c.args in
    devs_none args.n (drop args.at args.text.now) args.statistics.now (omega arith) (omega arith)

pub overflow_mul-from : goal.overflow_mul-from
overflow_mul-from c = omega (arith, c.loop-i.invariant.few, c.loop-i.invariant.ahead.some_left_lem)

pub overflow_add-from : goal.overflow_add-from
overflow_add-from c = omega (arith, c.loop-i.invariant.few, c.loop-i.invariant.ahead.some_left_lem)

pub slice_bounds-list_line-count : goal.slice_bounds-list_line-count
slice_bounds-list_line-count c = omega arith

pub slice_bounds-list_line-end : goal.slice_bounds-list_line-end
slice_bounds-list_line-end c =
    let L = c.loop-i in
    block_room 3 L.i c.args.n L.statistics L.invariant.long (omega (arith, L.invariant.ahead.some_left_lem, c.loop-i-test.true))

pub loop-i-preserved : goal.loop-i-preserved
loop-i-preserved c =
    let a = c.args in
    let L = c.loop-i in
    let d = c.list_line in
    devs_step a.n (drop a.at a.text.now) L.statistics L.i (drop L.p a.text.now) L.invariant (omega (arith, L.invariant.ahead.some_left_lem)) _
    (drop c.in-Some.q a.text.now) d.ensures.kept
    (c.in-Some.ensures.told)

pub returns-after-loop-i : goal.returns-after-loop-i
returns-after-loop-i c =
    let a = c.args in
    let L = c.loop-i in
    record { text_after = devs_done a.n (drop a.at a.text.now) L.statistics L.i (drop L.p a.text.now) L.invariant (omega (arith, c.loop-i.invariant, c.loop-i-test.false)); bad_le_n = tt }

pub returns-in_default : goal.returns-in_default
returns-in_default c =
    let a = c.args in
    let L = c.loop-i in
    let d = c.list_line in record {
      text_after = devs_stop a.n (drop a.at a.text.now) L.statistics L.i (drop L.p a.text.now) L.invariant (omega (arith, L.invariant.ahead.some_left_lem))
          (c.in_default.ensures.told);
      bad_le_n = omega (arith, L.invariant.ahead.some_left_lem);
    }
