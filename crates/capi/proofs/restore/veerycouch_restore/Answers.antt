-- `capi::restore::veerycouch_restore` meets its contract. Assumes nothing.
use mathlib.Core.Path.{refl}
use native.Mathlib.Omega.{arith}
use borrow.Author.Tests.{not-true, not-false}
use Rattle.trcf.specs.View.{lent}
use Rattle.capi.proofs.CallLaws.{kept}
use Rattle.capi.proofs.RestoreLaws.{told_not, restore_withheld, restore_few, restore_done}
use Rattle.capi.proofs.restore.veerycouch_restore.Goals as goal

pub returns-then-not-may : goal.returns-then-not-may
returns-then-not-may c =
    let a = c.args in
    rw c.from.ensures (restore_withheld a.table.now a.role a.text.now a.codes.now a.head.now
    (lent a.statistics.now a.last_shingled_input.now a.last_shingled_point.now a.previous_timestamps.now a.initial_values.now a.initial_timestamps.now)
    a.line.now c.may.ensures (not-true c.may.result (cc)))

pub returns-in-Ok : goal.returns-in-Ok
returns-in-Ok c =
    let a = c.args in
    restore_few a.table.now a.role a.text.now a.codes.now a.head.now
    (lent a.statistics.now a.last_shingled_input.now a.last_shingled_point.now a.previous_timestamps.now a.initial_values.now a.initial_timestamps.now)
    a.line.now c.may.ensures (not-false c.may.result (cc)) c.if-head-lt-HEAD_WORDS.true c.in-Ok.ensures refl

pub returns-in-Err : goal.returns-in-Err
returns-in-Err c =
    let a = c.args in
    let t = c.tell_refused.ensures in
    rw t.row_value (restore_few a.table.now a.role a.text.now a.codes.now a.head.now
    (lent a.statistics.now a.last_shingled_input.now a.last_shingled_point.now a.previous_timestamps.now a.initial_values.now a.initial_timestamps.now)
    a.line.now c.may.ensures (not-false c.may.result (cc)) c.if-head-lt-HEAD_WORDS.true c.in-Err.ensures t.place_after)

pub returns-in-Ok-taken : goal.returns-in-Ok-taken
returns-in-Ok-taken c =
    let a = c.args in
    restore_done a.table.now a.role a.text.now a.codes.now a.head.now
    (lent a.statistics.now a.last_shingled_input.now a.last_shingled_point.now a.previous_timestamps.now a.initial_values.now a.initial_timestamps.now)
    a.line.now c.may.ensures (not-false c.may.result (cc)) (omega arith) c.in-Ok-taken.ensures c.write_head.ensures refl

pub returns-in-Err-taken : goal.returns-in-Err-taken
returns-in-Err-taken c =
    let a = c.args in
    let t = c.tell_refused-in-Err-taken.ensures in
    rw t.row_value (restore_done a.table.now a.role a.text.now a.codes.now a.head.now
    (lent a.statistics.now a.last_shingled_input.now a.last_shingled_point.now a.previous_timestamps.now a.initial_values.now a.initial_timestamps.now)
    a.line.now c.may.ensures (not-false c.may.result (cc)) (omega arith) c.in-Err-taken.ensures
    (kept _ _ _ (told_not c.in-Err-taken.error)) t.place_after)
