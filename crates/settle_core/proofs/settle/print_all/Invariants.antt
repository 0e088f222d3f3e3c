-- What holds in the loop of `settle_core::settle::print_all`.
use Prim.Native.Nat.{◌*◌, ◌≤◌}
use Rattle.snapshot.specs.Steps.Write.{Wrote}
use Rattle.settling.specs.Steps.{signal_of}
use Rattle.settle_core.proofs.PrintLaws.{lines_of}
use Rattle.settle_core.proofs.settle.print_all.Given as goal

abbrev pub invariant-loop-i : goal.invariant-loop-i
invariant-loop-i l = Wrote 0 (lines_of l.pairs (signal_of l.signal) l.i) l.initial.out l.at l.out × (l.at ≤ 32 * l.i)
