-- What holds in the loop of `trcf_forecast::forecast::write_times`.
use mathlib.Core.Path.{◌≡◌}
use Rattle.refusal.specs.Lent.{over}
use Rattle.ranges.specs.RangeVector.{held, AreSameLoans}
use Rattle.trcf.specs.Lists.{tabulate}
use Rattle.trcf.specs.Steps.Inverting.{time_at}
use Rattle.trcf_forecast.proofs.forecast.write_times.Given as goal

abbrev pub invariant-loop-i : goal.invariant-loop-i
invariant-loop-i l =
    (l.out.values.now ≡ over l.initial.out.values.now (tabulate l.i (λ j. (time_at l.clock.gap l.clock.factor l.clock.scale l.clock.drift l.a l.m (held l.range) j).value)))
    × (l.out.upper.now ≡ over l.initial.out.upper.now (tabulate l.i (λ j. (time_at l.clock.gap l.clock.factor l.clock.scale l.clock.drift l.a l.m (held l.range) j).upper)))
    × (l.out.lower.now ≡ over l.initial.out.lower.now (tabulate l.i (λ j. (time_at l.clock.gap l.clock.factor l.clock.scale l.clock.drift l.a l.m (held l.range) j).lower)))
    × AreSameLoans l.initial.out l.out
