-- `bench_core::step::builder_from` meets its contract. Assumes nothing.
use Rattle.bench_core.specs.Bench.{builder_from}
use Rattle.bench_core.proofs.step.builder_from.Goals as goal

pub returns : goal.returns
unfolding builder_from
returns c = rw (c.mode_of_letter.ensures, c.method_of_number.ensures)
