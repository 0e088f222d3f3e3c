-- `bench_core::line::blank` meets its contract. Assumes nothing.
use mathlib.Core.Path.{refl}
use Rattle.bench_core.specs.Line.{blank_line}
use Rattle.bench_core.proofs.line.blank.Goals as goal

pub returns : goal.returns
unfolding blank_line
returns c = refl
