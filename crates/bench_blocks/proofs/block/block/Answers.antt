-- `bench_blocks::block::block` meets its contract. Assumes nothing.
use native.Mathlib.Omega.{arith}
use Rattle.trcf.specs.View.{lent}
use Rattle.bench_core.specs.Bench.{output}
use Rattle.bench_blocks.specs.Blocks.{block_printed}
use Rattle.bench_blocks.proofs.EndLaws.{block_open, block_full, block_closed}
use Rattle.bench_blocks.proofs.block.block.Goals as goal

pub returns-then-not-ends : goal.returns-then-not-ends
returns-then-not-ends c =
    let a = c.args in
    let s = c.cells-r in record {
      full_after = block_open a.b (lent a.statistics.now a.last_shingled_input.now a.last_shingled_point.now a.previous_timestamps.now a.initial_values.now
          a.initial_timestamps.now) a.point.now a.text.now a.out.now a.ends (block_printed s.result.bench
          (lent s.new.statistics s.new.last_shingled_input s.new.last_shingled_point s.new.previous_timestamps s.new.initial_values s.new.initial_timestamps)
          s.new.point s.result.read (output s.result.written s.new.out) s.result.full) s.ensures (cc);
      read_in_bounds = s.ensures.read;
      written_in_bounds = omega (arith, s.auto, s.ensures.fits);
    }

pub returns-then-r : goal.returns-then-r
returns-then-r c =
    let a = c.args in
    let s = c.cells-r in record {
      full_after = block_full a.b (lent a.statistics.now a.last_shingled_input.now a.last_shingled_point.now a.previous_timestamps.now a.initial_values.now
          a.initial_timestamps.now) a.point.now a.text.now a.out.now a.ends (block_printed s.result.bench
          (lent s.new.statistics s.new.last_shingled_input s.new.last_shingled_point s.new.previous_timestamps s.new.initial_values s.new.initial_timestamps)
          s.new.point s.result.read (output s.result.written s.new.out) s.result.full) s.ensures (cc) c.if-r.true;
      read_in_bounds = s.ensures.read;
      written_in_bounds = omega (arith, s.auto, s.ensures.fits);
    }

pub end_at-last-requires : goal.end_at-last-requires
end_at-last-requires c =
    let a = c.args in
    let s = c.cells-r in
    record { next_in_bounds = s.ensures.read; at_in_bounds = omega (arith, s.auto, s.ensures.room c.if-r.false) }

pub overflow_add-result : goal.overflow_add-result
overflow_add-result c =
    let a = c.args in
    let s = c.cells-r in
    omega (arith, s.ensures.room c.if-r.false, c.end_at-last.ensures.fits, c.well_formed)

pub shape_of-statistics : goal.shape_of-statistics
shape_of-statistics c =
    omega (arith, c.cells-r.auto)

pub shape_of-last_shingled_input : goal.shape_of-last_shingled_input
shape_of-last_shingled_input c =
    omega (arith, c.cells-r.auto)

pub shape_of-last_shingled_point : goal.shape_of-last_shingled_point
shape_of-last_shingled_point c =
    omega (arith, c.cells-r.auto)

pub shape_of-previous_timestamps : goal.shape_of-previous_timestamps
shape_of-previous_timestamps c =
    omega (arith, c.cells-r.auto)

pub shape_of-initial_values : goal.shape_of-initial_values
shape_of-initial_values c =
    omega (arith, c.cells-r.auto)

pub shape_of-initial_timestamps : goal.shape_of-initial_timestamps
shape_of-initial_timestamps c =
    omega (arith, c.cells-r.auto)

pub returns : goal.returns
returns c =
    let a = c.args in
    let s = c.cells-r in
    let t = c.end_at-last in record {
      full_after = block_closed a.b (lent a.statistics.now a.last_shingled_input.now a.last_shingled_point.now a.previous_timestamps.now a.initial_values.now
          a.initial_timestamps.now) a.point.now a.text.now a.out.now a.ends (block_printed s.result.bench
          (lent s.new.statistics s.new.last_shingled_input s.new.last_shingled_point s.new.previous_timestamps s.new.initial_values s.new.initial_timestamps)
          s.new.point s.result.read (output s.result.written s.new.out) s.result.full) s.ensures (cc) c.if-r.false t.result.bench t.new.out t.result.length t.ensures;
      read_in_bounds = omega arith;
      written_in_bounds = omega
          (arith, s.auto, t.auto, t.ensures.fits, s.ensures.room c.if-r.false);
    }
