-- `bench_core::step::build_bare` meets its contract. Assumes nothing.
use Prim.Native.Nat.{ℕ, ◌≤◌}
use mathlib.Core.Path.{◌≡◌, ap, ◌∙◌}
use lib.ListN.{take, replicate}
use Rattle.trcf.specs.View.{lent}
use Rattle.bench_core.specs.Bench.{code_count}
use Rattle.bench_core.proofs.StepLaws.{take_zeros, bare_refused, bare_built}
use Rattle.bench_core.proofs.step.build_bare.Goals as goal

-- the codes that are handed on
zeros : (d n : ℕ) → n ≡ code_count d → n ≤ 16 → take n (replicate {A = ℕ} 16 0) ≡ replicate {A = ℕ} (code_count d) 0
zeros d n e h = take_zeros 16 n h ∙ ap (λ (k : ℕ). replicate {A = ℕ} k 0) e

pub returns-in_err-head_row : goal.returns-in_err-head_row
returns-in_err-head_row c =
    let a = c.args in
    let n = c.code_count-n in
    bare_refused a.builder a.weights.now
    (lent a.statistics.now a.last_shingled_input.now a.last_shingled_point.now a.previous_timestamps.now a.initial_values.now a.initial_timestamps.now) (take n.result (replicate {A = ℕ} 16 0))
    (zeros a.builder.input_dimensions n.result n.ensures.value n.ensures.upper_bound) _ c.from_residual.result c.from_residual.ensures.1 c.in_err-head_row.ensures

pub returns : goal.returns
returns c =
    let a = c.args in
    let n = c.code_count-n in
    bare_built a.builder a.weights.now
    (lent a.statistics.now a.last_shingled_input.now a.last_shingled_point.now a.previous_timestamps.now a.initial_values.now a.initial_timestamps.now) (take n.result (replicate {A = ℕ} 16 0))
    (zeros a.builder.input_dimensions n.result n.ensures.value n.ensures.upper_bound) _ c.in_ok-head_row.ensures c.build.ensures
