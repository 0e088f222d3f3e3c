-- `bench_blocks::block::cells` meets its contract. Assumes nothing.
use native.Mathlib.Omega.{arith}
use mathlib.Core.Path.{refl}
use lib.ListN.{length-drop}
use Rattle.trcf.specs.View.{lent}
use Rattle.bench_blocks.proofs.LoopLaws.{stands_first, stands_full, stands_idle, stands_next}
use Rattle.bench_blocks.proofs.block.cells.Goals as goal

pub loop-out-init : goal.loop-out-init
loop-out-init c =
    let a = c.args in (
      (refl, refl, refl, refl, refl, refl, refl, refl),
      stands_first a.b
          (lent a.statistics.now a.last_shingled_input.now a.last_shingled_point.now a.previous_timestamps.now a.initial_values.now a.initial_timestamps.now)
          a.point.now a.text.now a.out.now,
    )

pub overflow_sub-out : goal.overflow_sub-out
overflow_sub-out c = omega (arith, c.loop-out.invariant.1.fits)

pub cell_at-s-requires : goal.cell_at-s-requires
cell_at-s-requires c =
    record { next_in_bounds = c.loop-out.invariant.1.read; at_in_bounds = omega (arith, c.loop-out.invariant.1.fits, c.loop-out-test.true) }

pub shape_of-statistics-then-s-eq0 : goal.shape_of-statistics-then-s-eq0
shape_of-statistics-then-s-eq0 c =
    omega (arith, c.cell_at-s.auto, c.loop-out.invariant.0)

pub shape_of-last_shingled_input-then-s-eq0 : goal.shape_of-last_shingled_input-then-s-eq0
shape_of-last_shingled_input-then-s-eq0 c =
    omega (arith, c.cell_at-s.auto, c.loop-out.invariant.0)

pub shape_of-last_shingled_point-then-s-eq0 : goal.shape_of-last_shingled_point-then-s-eq0
shape_of-last_shingled_point-then-s-eq0 c =
    omega (arith, c.cell_at-s.auto, c.loop-out.invariant.0)

pub shape_of-previous_timestamps-then-s-eq0 : goal.shape_of-previous_timestamps-then-s-eq0
shape_of-previous_timestamps-then-s-eq0 c =
    omega (arith, c.cell_at-s.auto, c.loop-out.invariant.0)

pub shape_of-initial_values-then-s-eq0 : goal.shape_of-initial_values-then-s-eq0
shape_of-initial_values-then-s-eq0 c =
    omega (arith, c.cell_at-s.auto, c.loop-out.invariant.0)

pub shape_of-initial_timestamps-then-s-eq0 : goal.shape_of-initial_timestamps-then-s-eq0
shape_of-initial_timestamps-then-s-eq0 c =
    omega (arith, c.cell_at-s.auto, c.loop-out.invariant.0)

pub shape_of-point-then-s-eq0 : goal.shape_of-point-then-s-eq0
shape_of-point-then-s-eq0 c =
    omega (arith, c.cell_at-s.auto, c.loop-out.invariant.0)

pub shape_of-out-then-s-eq0 : goal.shape_of-out-then-s-eq0
shape_of-out-then-s-eq0 c =
    omega (arith, c.cell_at-s.auto, c.loop-out.invariant.0)

pub returns-then-s-eq0 : goal.returns-then-s-eq0
returns-then-s-eq0 c =
    let a = c.args in
    let l = c.loop-out in
    let s = c.cell_at-s in
    stands_idle a.b
    (lent a.statistics.now a.last_shingled_input.now a.last_shingled_point.now a.previous_timestamps.now a.initial_values.now a.initial_timestamps.now)
    a.point.now a.text.now a.out.now l.bench
    (lent l.statistics l.last_shingled_input l.last_shingled_point l.previous_timestamps l.initial_values l.initial_timestamps) l.point l.out l.next
    l.at l.invariant.1 c.loop-out-test.true s.result.bench
    (lent s.new.statistics s.new.last_shingled_input s.new.last_shingled_point s.new.previous_timestamps s.new.initial_values s.new.initial_timestamps)
    s.new.point s.new.out s.result.next s.result.length s.ensures (omega (arith, s.auto)) c.if-s-eq0.true

pub overflow_add-next : goal.overflow_add-next
overflow_add-next c =
    let a = c.args in
    let l = c.loop-out in
    let s = c.cell_at-s in
    omega (arith, l.invariant.1.read, s.ensures.within, length-drop l.next a.text.now, c.well_formed)

pub overflow_add-at : goal.overflow_add-at
overflow_add-at c =
    let a = c.args in
    let l = c.loop-out in
    let s = c.cell_at-s in
    omega (arith, l.invariant.1.fits, s.ensures.fits, c.loop-out-test.true, l.invariant.0, c.well_formed)

pub loop-out-smaller : goal.loop-out-smaller
loop-out-smaller c =
    let a = c.args in
    let l = c.loop-out in
    let s = c.cell_at-s in
    omega (arith, l.invariant.1.read, s.ensures.within, length-drop l.next a.text.now, c.if-s-eq0.false)

pub loop-out-preserved : goal.loop-out-preserved
loop-out-preserved c =
    let a = c.args in
    let l = c.loop-out in
    let s = c.cell_at-s in (
      omega (arith, s.auto, l.invariant.0),
      stands_next a.b
          (lent a.statistics.now a.last_shingled_input.now a.last_shingled_point.now a.previous_timestamps.now a.initial_values.now a.initial_timestamps.now)
          a.point.now a.text.now a.out.now l.bench
          (lent l.statistics l.last_shingled_input l.last_shingled_point l.previous_timestamps l.initial_values l.initial_timestamps) l.point l.out l.next
          l.at l.invariant.1 c.loop-out-test.true s.result.bench
          (lent s.new.statistics s.new.last_shingled_input s.new.last_shingled_point s.new.previous_timestamps s.new.initial_values s.new.initial_timestamps)
          s.new.point s.new.out s.result.next s.result.length s.ensures (omega (arith, s.auto))
          c.if-s-eq0.false,
    )

pub shape_of-statistics : goal.shape_of-statistics
shape_of-statistics c = omega (arith, c.loop-out.invariant.0)

pub shape_of-last_shingled_input : goal.shape_of-last_shingled_input
shape_of-last_shingled_input c = omega (arith, c.loop-out.invariant.0)

pub shape_of-last_shingled_point : goal.shape_of-last_shingled_point
shape_of-last_shingled_point c = omega (arith, c.loop-out.invariant.0)

pub shape_of-previous_timestamps : goal.shape_of-previous_timestamps
shape_of-previous_timestamps c = omega (arith, c.loop-out.invariant.0)

pub shape_of-initial_values : goal.shape_of-initial_values
shape_of-initial_values c = omega (arith, c.loop-out.invariant.0)

pub shape_of-initial_timestamps : goal.shape_of-initial_timestamps
shape_of-initial_timestamps c = omega (arith, c.loop-out.invariant.0)

pub shape_of-point : goal.shape_of-point
shape_of-point c = omega (arith, c.loop-out.invariant.0)

pub shape_of-out : goal.shape_of-out
shape_of-out c = omega (arith, c.loop-out.invariant.0)

pub returns : goal.returns
returns c =
    let a = c.args in
    let l = c.loop-out in
    stands_full a.b
    (lent a.statistics.now a.last_shingled_input.now a.last_shingled_point.now a.previous_timestamps.now a.initial_values.now a.initial_timestamps.now)
    a.point.now a.text.now a.out.now l.bench
    (lent l.statistics l.last_shingled_input l.last_shingled_point l.previous_timestamps l.initial_values l.initial_timestamps) l.point l.out l.next
    l.at l.invariant.1 c.loop-out-test.false
