-- What holds in the loop of `bench_core::step::cell_end`.
use Rattle.bench_core.specs.Bench.{cell_length}
use lib.ListN.{drop}
use Prim.Native.Nat.{◌+◌}
use mathlib.Core.Path.{◌≡◌}
use Rattle.bench_core.proofs.step.cell_end.Given as goal

abbrev pub invariant-loop-i : goal.invariant-loop-i
invariant-loop-i l = cell_length l.text ≡ l.i + cell_length (drop l.i l.text)
