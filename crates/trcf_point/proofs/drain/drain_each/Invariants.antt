-- What holds in the loop of `trcf_point::drain::drain_each`.
use Prim.Native.Nat.{◌+◌}
use mathlib.Core.Path.{◌≡◌}
use lib.ListN.{length}
use Rattle.trcf.specs.Preprocessor.{blocks, drain_each}
use Rattle.trcf.specs.Steps.Learning.{shingling}
use Rattle.trcf.proofs.DrainLaws.{left}
use Rattle.trcf_point.proofs.drain.drain_each.Given as goal

abbrev pub invariant-loop-i : goal.invariant-loop-i
invariant-loop-i l =
    (length l.inputs ≡ length l.initial.inputs) × (length l.points ≡ length l.initial.points) × (length l.times ≡ length l.initial.times)
    × (drain_each (shingling l.head (l.head.transformer.count + length l.stamps) l.s l.initial.inputs l.initial.points l.initial.times l.head.internal_timestamp)
    (blocks l.head.transformer.input_length l.values l.stamps)
    ≡ drain_each (shingling l.head (l.head.transformer.count + length l.stamps) l.s l.inputs l.points l.times (l.head.internal_timestamp + l.i))
    (left l.head.transformer.input_length l.values l.stamps l.i))
