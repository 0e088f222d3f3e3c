-- `snapshot_restore::restore::judge_body` meets its contract. Assumes nothing.
use native.Mathlib.Omega.{arith}
use lib.ListN.{drop, length-drop}
use Rattle.trcf.specs.View.{settings_of}
use Rattle.snapshot.specs.Steps.Runs.{counts_in}
use Rattle.snapshot.proofs.BodyLaws.{expected_few, expected_room}
use Rattle.snapshot_restore.proofs.JudgedLaws.{handed, judged_parts, judged_bufs, judged_behind, judged_all, judged_good}
use Rattle.snapshot_restore.proofs.restore.judge_body.Goals as goal

pub returns-in_err-p : goal.returns-in_err-p
returns-in_err-p c =
    let a = c.args in
    let s = settings_of a.head in
    let k = counts_in a.head in
    let t = a.text.now in
    let l = drop a.at t in
    let e = c.in_err-p.ensures in
    rw (handed c.from_residual.result _ c.from_residual.ensures.1) (record { value = judged_parts s k l _ e.text_value; bad_bound = omega (arith, e.bad_bound); count_bound = tt; good = tt })

pub buf_lines_unkept-requires : goal.buf_lines_unkept-requires
buf_lines_unkept-requires c =
    let a = c.args in
    let n = expected_few (settings_of a.head) (counts_in a.head) (drop c.in_ok-p.p a.text.now) c.requires.start_few in
    record { d_bound = c.requires.d_few; n_bound = omega (arith, n, c.initial_count-n.ensures, c.requires.start_few) }

pub overflow_add-result : goal.overflow_add-result
overflow_add-result c =
    let a = c.args in
    let n = expected_few (settings_of a.head) (counts_in a.head) (drop c.in_ok-p.p a.text.now) c.requires.start_few in
    omega (arith, n, c.initial_count-n.ensures, c.in-Err.ensures.bad_le_n, c.requires.d_few, c.requires.start_few)

pub returns-in-Err : goal.returns-in-Err
returns-in-Err c =
    let a = c.args in
    let s = settings_of a.head in
    let k = counts_in a.head in
    let t = a.text.now in
    let l = drop a.at t in
    let N = c.initial_count-n in
    let z = drop c.in_ok-p.p t in
    let n = expected_few s k z c.requires.start_few in
    let f = c.in-Err.ensures in
    record {
      value = judged_bufs s k l z c.in_ok-p.ensures.text_value N.result N.ensures _ f.text_value;
      bad_bound = omega (arith, n, N.ensures, f.bad_le_n, c.requires.d_few, c.requires.start_few);
      count_bound = tt;
      good = tt;
    }

pub overflow_add-result-then-end-text : goal.overflow_add-result-then-end-text
overflow_add-result-then-end-text c =
    let a = c.args in
    let n = expected_few (settings_of a.head) (counts_in a.head) (drop c.in_ok-p.p a.text.now) c.requires.start_few in
    omega (arith, n, c.initial_count-n.ensures, c.requires.d_few, c.requires.start_few)

pub overflow_add-result-then-end-text-2 : goal.overflow_add-result-then-end-text-2
overflow_add-result-then-end-text-2 c =
    let a = c.args in
    let n = expected_few (settings_of a.head) (counts_in a.head) (drop c.in_ok-p.p a.text.now) c.requires.start_few in
    omega (arith, n, c.initial_count-n.ensures, c.requires.d_few, c.requires.start_few)

pub returns-then-end-text : goal.returns-then-end-text
returns-then-end-text c =
    let a = c.args in
    let s = settings_of a.head in
    let k = counts_in a.head in
    let t = a.text.now in
    let l = drop a.at t in
    let N = c.initial_count-n in
    let z = drop c.in_ok-p.p t in
    let n = expected_few s k z c.requires.start_few in
    let end = c.in-Ok.end in
    record {
      value = judged_behind s k l z c.in_ok-p.ensures.text_value N.result N.ensures (drop end t) c.in-Ok.ensures.text_value (omega (arith, length-drop end t, c.if-end-text.true));
      bad_bound = omega (arith, n, N.ensures, c.requires.d_few, c.requires.start_few);
      count_bound = tt;
      good = tt;
    }

pub returns-else-end-text : goal.returns-else-end-text
returns-else-end-text c =
    let a = c.args in
    let s = settings_of a.head in
    let k = counts_in a.head in
    let t = a.text.now in
    let l = drop a.at t in
    let N = c.initial_count-n in
    let z = drop c.in_ok-p.p t in
    let e = c.in_ok-p.ensures.text_value in
    let f = c.in-Ok.ensures.text_value in
    let h = expected_room s k z in
    record {
      value = judged_all s k l z e N.result N.ensures (drop c.in-Ok.end t) f (omega (arith, length-drop c.in-Ok.end t, c.if-end-text.false));
      bad_bound = tt;
      count_bound = omega (arith, h, N.ensures);
      good = judged_good s k l z e N.result N.ensures (drop c.in-Ok.end t) f (omega (arith, length-drop c.in-Ok.end t, c.if-end-text.false));
    }
