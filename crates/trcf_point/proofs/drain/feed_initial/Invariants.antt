-- What holds in the loop of `trcf_point::drain::feed_initial`.
use Prim.Native.Nat.{◌+◌, ◌-◌}
use mathlib.Core.Path.{◌≡◌}
use lib.ListN.{length}
use Rattle.trcf.specs.Preprocessor.{feed_all, blocks}
use Rattle.trcf.specs.View.{settings_of}
use Rattle.trcf.specs.Steps.Learning.{reading_at}
use Rattle.trcf.proofs.DrainLaws.{left}
use Rattle.trcf_point.proofs.drain.feed_initial.Given as goal

abbrev pub invariant-loop-i : goal.invariant-loop-i
invariant-loop-i l =
    (length l.s ≡ length l.initial.s) × (feed_all (settings_of l.head) l.head.transformer.count l.initial.s (reading_at l.head.transformer.input_length l.values l.stamps 0)
    (blocks l.head.transformer.input_length l.values l.stamps) ≡ feed_all (settings_of l.head) (l.head.transformer.count + l.i) l.s
    (reading_at l.head.transformer.input_length l.values l.stamps (l.i - 1)) (left l.head.transformer.input_length l.values l.stamps l.i))
