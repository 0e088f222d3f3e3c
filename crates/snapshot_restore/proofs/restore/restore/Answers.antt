-- `snapshot_restore::restore::restore` meets its contract: each return by the tests on the way to it. Assumes nothing.
use mathlib.Core.Path.{refl, sym, ◌∙◌}
use lib.ListN.{drop}
use Rattle.trcf.specs.View.{lent}
use Rattle.snapshot.proofs.BodyLaws.{short_is, room_of}
use Rattle.snapshot_restore.proofs.RestoreLaws.{told_head, restore_head, restore_body, restore_other, restore_short, restore_all}
use Rattle.snapshot_restore.proofs.restore.restore.Goals as goal

pub returns-in_err-h : goal.returns-in_err-h
returns-in_err-h c =
    let a = c.args in
    let l =
    lent a.statistics.now a.last_shingled_input.now a.last_shingled_point.now a.previous_timestamps.now a.initial_values.now
    a.initial_timestamps.now in
    told_head c.from_residual.result _ l c.from_residual.ensures.1 ∙ restore_head a.text.now a.codes.now l _ c.in_err-h.ensures.text_value

pub returns-in-Err : goal.returns-in-Err
returns-in-Err c =
    let a = c.args in
    let t = a.text.now in
    let l =
    lent a.statistics.now a.last_shingled_input.now a.last_shingled_point.now a.previous_timestamps.now a.initial_values.now
    a.initial_timestamps.now in
    let h = c.in_ok-h.h in
    let z = drop h.at t in
    let H = c.in_ok-h.ensures in
    restore_body t a.codes.now l h.head h.extra z H.text_value _ c.in-Err.ensures.value

pub returns-then-not-codes_agree : goal.returns-then-not-codes_agree
returns-then-not-codes_agree c =
    let a = c.args in
    let t = a.text.now in
    let l =
    lent a.statistics.now a.last_shingled_input.now a.last_shingled_point.now a.previous_timestamps.now a.initial_values.now
    a.initial_timestamps.now in
    let h = c.in_ok-h.h in
    let z = drop h.at t in
    let H = c.in_ok-h.ensures in
    let J = c.in-Ok.ensures in
    restore_other t a.codes.now l h.head h.extra z H.text_value c.in-Ok.n J.value J.good (sym c.codes_agree.ensures ∙ c.if-not-codes_agree.true)

pub returns-then-is_short : goal.returns-then-is_short
returns-then-is_short c =
    let a = c.args in
    let t = a.text.now in
    let l =
    lent a.statistics.now a.last_shingled_input.now a.last_shingled_point.now a.previous_timestamps.now a.initial_values.now
    a.initial_timestamps.now in
    let h = c.in_ok-h.h in
    let z = drop h.at t in
    let H = c.in_ok-h.ensures in
    let J = c.in-Ok.ensures in
    let s = sym c.codes_agree.ensures ∙ c.if-not-codes_agree.false in
    let w = sym (short_is h.head l _ H.head_few refl) ∙ sym c.is_short.ensures ∙ c.if-is_short.true in
    restore_short t a.codes.now l h.head h.extra z H.text_value c.in-Ok.n J.value J.good s w

pub fill-requires : goal.fill-requires
fill-requires c =
    let a = c.args in
    let t = a.text.now in
    let l =
    lent a.statistics.now a.last_shingled_input.now a.last_shingled_point.now a.previous_timestamps.now a.initial_values.now
    a.initial_timestamps.now in
    let h = c.in_ok-h.h in
    let z = drop h.at t in
    let H = c.in_ok-h.ensures in
    let w = sym (short_is h.head l _ H.head_few refl) ∙ sym c.is_short.ensures ∙ c.if-is_short.false in
    room_of h.head l c.in-Ok.n H.head_few w c.in-Ok.ensures.count_bound

pub returns : goal.returns
returns c =
    let a = c.args in
    let t = a.text.now in
    let l =
    lent a.statistics.now a.last_shingled_input.now a.last_shingled_point.now a.previous_timestamps.now a.initial_values.now
    a.initial_timestamps.now in
    let h = c.in_ok-h.h in
    let z = drop h.at t in
    let H = c.in_ok-h.ensures in
    let J = c.in-Ok.ensures in
    let s = sym c.codes_agree.ensures ∙ c.if-not-codes_agree.false in
    let w = sym (short_is h.head l _ H.head_few refl) ∙ sym c.is_short.ensures ∙ c.if-is_short.false in
    let G = c.fill in
    let new = lent c.fill.new.statistics c.fill.new.last_shingled_input c.fill.new.last_shingled_point c.fill.new.previous_timestamps c.fill.new.initial_values c.fill.new.initial_timestamps in
    restore_all t a.codes.now l h.head h.extra z H.text_value c.in-Ok.n J.value J.good s w new G.ensures
