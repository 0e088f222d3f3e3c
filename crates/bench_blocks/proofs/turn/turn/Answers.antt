-- `bench_blocks::turn::turn` meets its contract. Assumes nothing.
use mathlib.Core.Path.{sym, ◌∙◌}
use native.Mathlib.Omega.{arith}
use lib.ListN.{length, length-take}
use Rattle.trcf.specs.View.{lent}
use Rattle.bench_core.specs.Bench.{output}
use Rattle.bench_blocks.specs.Blocks.{block_printed}
use Rattle.bench_blocks.proofs.TurnLaws.{unfit_false, turn_refused, turn_done}
use Rattle.bench_blocks.proofs.turn.turn.Goals as goal

pub returns-then-is_unfit : goal.returns-then-is_unfit
returns-then-is_unfit c =
    let a = c.args in
    let u = c.is_unfit in record {
      out_after = turn_refused a.run
          (lent a.statistics.now a.last_shingled_input.now a.last_shingled_point.now a.previous_timestamps.now a.initial_values.now a.initial_timestamps.now)
          a.point.now a.text.now a.got a.out.now u.result u.ensures c.if-is_unfit.true;
      written_in_bounds = tt;
      kept_in_bounds = tt;
    }

pub standing_in-n-requires : goal.standing_in-n-requires
standing_in-n-requires c =
    let a = c.args in
    let u = c.is_unfit in
    let h = unfit_false a.run.kept a.got (length a.text.now) (length a.out.now) (sym u.ensures ∙ c.if-is_unfit.false) in
    omega (arith, h.2, c.well_formed)

pub slice_bounds-block-end : goal.slice_bounds-block-end
slice_bounds-block-end c =
    let a = c.args in
    let u = c.is_unfit in
    let h = unfit_false a.run.kept a.got (length a.text.now) (length a.out.now) (sym u.ensures ∙ c.if-is_unfit.false) in
    omega (arith, h.2, c.standing_in-n.ensures.upper_bound)

pub slice_bounds-block-end-2 : goal.slice_bounds-block-end-2
slice_bounds-block-end-2 c =
    let a = c.args in
    let u = c.is_unfit in
    let h = unfit_false a.run.kept a.got (length a.text.now) (length a.out.now) (sym u.ensures ∙ c.if-is_unfit.false) in
    simp length-take (omega (arith, h.2, c.standing_in-n.ensures.upper_bound))

pub overflow_sub-n : goal.overflow_sub-n
overflow_sub-n c =
    omega (arith, simp length-take at c.block-r.ensures.read_in_bounds)

pub carry-requires : goal.carry-requires
carry-requires c =
    let a = c.args in
    let u = c.is_unfit in
    let h = unfit_false a.run.kept a.got (length a.text.now) (length a.out.now) (sym u.ensures ∙ c.if-is_unfit.false) in
    omega (arith, h.2, c.standing_in-n.ensures.upper_bound, c.rest_of-rest.ensures.upper_bound, simp length-take at c.block-r.ensures.read_in_bounds)

pub returns : goal.returns
returns c =
    let a = c.args in
    let u = c.is_unfit in
    let h = unfit_false a.run.kept a.got (length a.text.now) (length a.out.now) (sym u.ensures ∙ c.if-is_unfit.false) in
    let n = c.standing_in-n in
    let q = c.is_end in
    let s = c.block-r in
    let k = c.rest_of-rest in
    let m = c.carry in record {
      out_after = turn_done a.run (lent a.statistics.now a.last_shingled_input.now a.last_shingled_point.now a.previous_timestamps.now a.initial_values.now
          a.initial_timestamps.now) a.point.now a.text.now a.got a.out.now u.result u.ensures c.if-is_unfit.false n.result n.ensures.value q.result q.ensures (block_printed s.result.bench
          (lent s.new.statistics s.new.last_shingled_input s.new.last_shingled_point s.new.previous_timestamps s.new.initial_values s.new.initial_timestamps)
          s.new.point s.result.read (output s.result.written s.new.out) s.result.full) s.ensures.full_after k.result k.ensures.value m.new.text m.ensures;
      written_in_bounds = omega (arith, s.auto, s.ensures.written_in_bounds);
      kept_in_bounds = omega (arith, m.auto, k.ensures.upper_bound, n.ensures.upper_bound, h.2);
    }
