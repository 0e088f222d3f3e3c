-- What holds in the loops of `settling::run::readings`.
use mathlib.Core.Path.{◌≡◌}
use Rattle.trcf.specs.View.{lent}
use Rattle.settling.specs.Steps.{signal_of, noted_by, track, track_from}
use Rattle.settling.proofs.StepLaws.{Sized}
use Rattle.settling.proofs.run.readings.Given as goal

abbrev pub invariant-loop-i : goal.invariant-loop-i
invariant-loop-i l =
    (track l.head (lent l.statistics l.last_shingled_input l.last_shingled_point l.previous_timestamps l.initial_values l.initial_timestamps) (noted_by l.s)
    ≡ track_from (signal_of l.signal) (track l.initial.head
    (lent l.initial.statistics l.initial.last_shingled_input l.initial.last_shingled_point l.initial.previous_timestamps l.initial.initial_values l.initial.initial_timestamps)
    (noted_by l.initial.s)) l.i)
    × Sized l.statistics l.last_shingled_input l.last_shingled_point l.previous_timestamps l.initial_values l.initial_timestamps
