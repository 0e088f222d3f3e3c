-- `snapshot_restore::restore::fill_body` meets its contract. Assumes nothing.
use lib.ListN.{length, drop}
use Rattle.trcf.specs.View.{settings_of}
use Rattle.snapshot.specs.Steps.Runs.{counts_in, parts, initial_lists}
use Rattle.snapshot.proofs.BodyLaws.{parts_of_lem, fills_of, fills_not}
use Rattle.snapshot_restore.proofs.restore.fill_body.Goals as goal

pub returns-in-Ok : goal.returns-in-Ok
returns-in-Ok c =
    let a = c.args in
    let s = settings_of a.head in
    let k = counts_in a.head in
    let t = a.text.now in
    let P = c.part_lines-parts in
    let U = c.buf_lines-lines in
    fills_of s k a.n (drop a.at t) (parts P.new.statistics P.new.input P.new.point P.new.times)
    (initial_lists U.new.values U.new.times) U.result (drop c.in-Ok.p t) t
    (parts_of_lem s k (drop a.at t) (length a.input.now) (length a.point.now) (length a.times.now) _ c.requires.input_len c.requires.point_len c.requires.times_len c.in-Ok.ensures.text_after)
    U.ensures

pub returns-in_default : goal.returns-in_default
returns-in_default c =
    let a = c.args in
    let s = settings_of a.head in
    let k = counts_in a.head in
    let t = a.text.now in
    let P = c.part_lines-parts in
    fills_not s k a.n (drop a.at t) (parts P.new.statistics P.new.input P.new.point P.new.times)
    (initial_lists a.values.now a.initial_times.now) P.result t
    (parts_of_lem s k (drop a.at t) (length a.input.now) (length a.point.now) (length a.times.now) _ c.requires.input_len c.requires.point_len c.requires.times_len P.ensures.text_after)
    c.in_default.not-Ok
