-- `snapshot_restore::lines::buf_lines_unkept` meets its contract. Assumes nothing.
use native.Mathlib.Omega.{arith}
use mathlib.Core.Path.{refl, sym, ap, ◌∙◌}
use lib.ListN.{drop}
use lib.Seq.{length-take-le, length_front}
use Rattle.snapshot.specs.Steps.Runs.{Ran, Initial, unkept}
use Rattle.trcf.specs.Preprocessor.{reading}
use Rattle.snapshot.proofs.RunLaws.{unkept_none, unkept_step, unkept_stop, unkept_done}
use Rattle.snapshot_restore.proofs.lines.buf_lines_unkept.Goals as goal

pub loop-i-init : goal.loop-i-init
loop-i-init c =
    let a = c.args in
    (refl, unkept_none a.d a.n (drop a.at a.text.now) (omega arith) (omega arith))

pub slice_bounds-values-end : goal.slice_bounds-values-end
slice_bounds-values-end c = omega (arith, c.loop-i.invariant.0, c.loop-i.invariant.1.narrow)

pub slice_bounds-buf_line-end : goal.slice_bounds-buf_line-end
slice_bounds-buf_line-end c =
    let L = c.loop-i in
    sym (length-take-le c.args.d L.values (omega (arith, L.invariant.0, L.invariant.1.narrow)))

pub loop-i-preserved : goal.loop-i-preserved
loop-i-preserved c =
    let a = c.args in
    let L = c.loop-i in
    let b = c.buf_line in (
      length_front L.values b.new.out a.d b.ensures.kept ∙ L.invariant.0,
      unkept_step a.d a.n (drop a.at a.text.now) L.i L.past (drop L.p a.text.now) L.invariant.1 (omega (arith, L.invariant.1.ahead.some_left_lem)) _
          (reading b.new.out c.in-Some.line.time) (drop c.in-Some.line.end a.text.now) (length-take-le a.d L.values (omega (arith, L.invariant.1.narrow, L.invariant.0)))
          (c.in-Some.ensures.told),
    )

pub returns-after-loop-i : goal.returns-after-loop-i
returns-after-loop-i c =
    let a = c.args in
    let L = c.loop-i in record {
      text_value = ap (λ (r : Ran Initial). unkept r) (unkept_done a.d a.n (drop a.at a.text.now) L.i L.past (drop L.p a.text.now) L.invariant.1 (omega (
        arith,
        c.loop-i.invariant,
        c.loop-i-test.false,
      )));
      bad_le_n = tt;
    }

pub returns-in_default : goal.returns-in_default
returns-in_default c =
    let a = c.args in
    let L = c.loop-i in
    let b = c.buf_line in record {
      text_value = ap (λ (r : Ran Initial). unkept r) (unkept_stop a.d a.n (drop a.at a.text.now) L.i L.past (drop L.p a.text.now) L.invariant.1
          (omega (arith, L.invariant.1.ahead.some_left_lem)) _ (length-take-le a.d L.values (omega (arith, L.invariant.1.narrow, L.invariant.0)))
          (c.in_default.ensures.told));
      bad_le_n = omega (arith, L.invariant.1.ahead.some_left_lem);
    }
