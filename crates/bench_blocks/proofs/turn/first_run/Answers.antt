-- `bench_blocks::turn::first_run` meets its contract. Assumes nothing.
use mathlib.Core.Path.{ap}
use mathlib.Core.Bool.{false}
use Rattle.bench_core.specs.declared.step.Bench.{Bench}
use Rattle.bench_blocks.specs.Turns.{run_with}
use Rattle.bench_blocks.proofs.turn.first_run.Goals as goal

pub returns : goal.returns
returns c = ap (λ (b : Bench). run_with b 0 false) c.start.ensures
