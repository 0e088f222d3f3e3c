-- `settle_core::settle::settle` meets its contract. Assumes nothing.
use mathlib.Core.Path.{ap, ◌∙◌}
use native.Mathlib.Omega.{arith}
use Rattle.snapshot_save.proofs.OptionalLaws.{within_short, within_written}
use Rattle.snapshot.proofs.WriteLaws.{wrote_is}
use Rattle.bench_core.specs.Bench.{no_text}
use Rattle.settle_core.specs.Settle.{settle_of, settled_on}
use Rattle.settle_core.proofs.PrintLaws.{refusal_printed, refusal_length, no_short, refusal_is, lines_are}
use Rattle.settle_core.proofs.settle.settle.Goals as goal

pub returns-then-output-lt-ROOM : goal.returns-then-output-lt-ROOM
unfolding settled_on
returns-then-output-lt-ROOM c =
    record { output_after = within_short 256 (settle_of c.args.input.now) c.args.output.now (omega (arith, c.if-output-lt-ROOM.true)); length_in_bounds = tt }

pub returns-in-Err : goal.returns-in-Err
unfolding settled_on no_text
returns-in-Err c =
    let a = c.args in
    let n = c.from.result in
    let l = c.whole_line in
    let few = no_short n (omega arith) in
    record {
      output_after = refusal_printed (no_text n) a.output.now l.new.out l.result l.ensures few (omega (arith, c.if-output-lt-ROOM.false))
          (settle_of a.input.now) (ap no_text c.from.ensures ∙ refusal_is a.input.now _ c.in-Err.ensures.result_value);
      length_in_bounds = refusal_length (no_text n) a.output.now l.new.out l.result l.ensures few (omega (arith, c.if-output-lt-ROOM.false)) (omega (arith, l.auto));
    }

pub returns-in-Ok : goal.returns-in-Ok
unfolding settled_on
returns-in-Ok c =
    let a = c.args in
    let p = c.print_all in
    let w = wrote_is (lines_are a.input.now c.in-Ok.judged c.in-Ok.ensures.result_value) p.ensures.wrote in
    record {
      output_after = within_written 256 (settle_of a.input.now) a.output.now _ _ (omega (arith, c.if-output-lt-ROOM.false)) (omega (arith, w.place, p.ensures.upper_bound)) w;
      length_in_bounds = omega (arith, p.ensures.upper_bound, w.kept, c.if-output-lt-ROOM.false);
    }
