-- What holds in the loops of `bench_blocks::block::cells`.
use Prim.Native.Nat.{◌-◌}
use mathlib.Core.Path.{◌≡◌}
use lib.ListN.{length}
use Rattle.trcf.specs.View.{lent}
use Rattle.bench_blocks.proofs.LoopLaws.{Stands}
use Rattle.bench_blocks.proofs.block.cells.Given as goal

abbrev pub invariant-loop-out : goal.invariant-loop-out
invariant-loop-out l =
    ((length l.statistics ≡ length l.initial.statistics) × (length l.last_shingled_input ≡ length l.initial.last_shingled_input)
    × (length l.last_shingled_point ≡ length l.initial.last_shingled_point) × (length l.previous_timestamps ≡ length l.initial.previous_timestamps)
    × (length l.initial_values ≡ length l.initial.initial_values) × (length l.initial_timestamps ≡ length l.initial.initial_timestamps)
    × (length l.point ≡ length l.initial.point) × (length l.out ≡ length l.initial.out))
    × Stands l.initial.bench
    (lent l.initial.statistics l.initial.last_shingled_input l.initial.last_shingled_point l.initial.previous_timestamps l.initial.initial_values l.initial.initial_timestamps)
    l.initial.point l.text l.initial.out l.bench
    (lent l.statistics l.last_shingled_input l.last_shingled_point l.previous_timestamps l.initial_values l.initial_timestamps) l.point l.out l.next l.at

abbrev pub decreases-loop-out : goal.decreases-loop-out
decreases-loop-out l =
    length l.text - l.next
