-- `bench_blocks::block::cell_at` meets its contract. Assumes nothing.
use mathlib.Core.Path.{◌≡◌, subst}
use native.Mathlib.Omega.{arith}
use Prim.Native.Nat.{◌+◌, ◌-◌}
use lib.ListN.{length, take, drop}
use Rattle.std.specs.Prelude.{Result}
use Rattle.refusal.specs.declared.Refusal.{Refusal}
use Rattle.trcf.specs.View.{lent}
use Rattle.bench_core.specs.Bench.{stepped_by, bench_step}
use Rattle.bench_core.specs.declared.step.StepResult.{StepResult}
use Rattle.bench_blocks.proofs.PlaceLaws.{step_taken, placed_at}
use Rattle.bench_blocks.proofs.block.cell_at.Goals as goal

pub overflow_add-end : goal.overflow_add-end
overflow_add-end c =
    omega (arith, c.well_formed)

pub unwrap-requires : goal.unwrap-requires
unwrap-requires c =
    let a = c.args in
    step_taken a.b
    (lent a.statistics.now a.last_shingled_input.now a.last_shingled_point.now a.previous_timestamps.now a.initial_values.now a.initial_timestamps.now) a.point.now a.text.now a.next a.out.now a.at
    c.requires.at_in_bounds c.step-cell.result _ _ _ c.step-cell.ensures

pub returns : goal.returns
returns c =
    let a = c.args in
    let s = c.step-cell in
    let l = (lent a.statistics.now a.last_shingled_input.now a.last_shingled_point.now a.previous_timestamps.now a.initial_values.now a.initial_timestamps.now) in
    let m = lent s.new.statistics s.new.last_shingled_input s.new.last_shingled_point s.new.previous_timestamps s.new.initial_values s.new.initial_timestamps in
    let e = subst (λ (r : Result StepResult Refusal). stepped_by r a.b m s.new.point s.new.out
    ≡ bench_step a.b l a.point.now (take (length a.text.now - a.next) (drop a.next a.text.now)) (take (a.at + 65536 - a.at) (drop a.at a.out.now)))
    c.unwrap.ensures s.ensures in
    placed_at a.b l a.point.now a.text.now a.next a.out.now a.at c.requires.at_in_bounds s.new.out e (omega (arith, s.auto))
