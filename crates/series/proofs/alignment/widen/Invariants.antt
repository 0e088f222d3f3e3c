-- What holds in the loops of `series::alignment::widen`.
use mathlib.Core.Path.{◌≡◌}
use lib.ListN.{length}
use Rattle.series.specs.Steps.Comparing.{widened}
use Rattle.series.proofs.AlignmentLaws.Written.{part}
use Rattle.series.proofs.alignment.widen.Given as goal

abbrev pub invariant-loop-c : goal.invariant-loop-c
invariant-loop-c l = (l.gaps ≡ part l.initial.gaps (widened l.left l.a l.right l.b l.initial.gaps) l.c) × (length l.gaps ≡ length l.initial.gaps)
