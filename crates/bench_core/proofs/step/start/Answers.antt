-- `bench_core::step::start` meets its contract. Assumes nothing.
use Rattle.bench_core.specs.Bench.{fresh_bench}
use Rattle.bench_core.proofs.step.start.Goals as goal

pub returns : goal.returns
unfolding fresh_bench
returns c = rw (c.blank.ensures, c.no_builder.ensures, c.no_head.ensures)
