-- A gap, or the three stretched numbers shifted together. Assumes nothing.
use mathlib.Core.Path.{◌∙◌}
use lib.Ieee.{binary64, mul}
use Rattle.ranges.specs.RangeVector.{range, shifted, scaled}
use Rattle.trcf.specs.Steps.Inverting.{time_by}
use Rattle.trcf_forecast.proofs.forecast.Clock.invert.Goals as goal

pub returns-then-self : goal.returns-then-self
unfolding time_by scaled
returns-then-self c =
    rw c.if-self.true
    (c.scale.ensures ∙ (λ j. scaled binary64 (range (mul binary64 (c.to_f64.ensures j) c.args.self.factor) (mul binary64 (c.to_f64-2.ensures j) c.args.self.factor)
    (mul binary64 (c.to_f64-3.ensures j) c.args.self.factor)) c.args.self.scale))

pub returns : goal.returns
unfolding time_by shifted
returns c =
    rw c.if-self.false
    (c.shift.ensures ∙ (λ j. shifted binary64 (range (mul binary64 (mul binary64 (c.to_f64.ensures j) c.args.self.factor) c.args.self.scale)
    (mul binary64 (mul binary64 (c.to_f64-2.ensures j) c.args.self.factor) c.args.self.scale)
    (mul binary64 (mul binary64 (c.to_f64-3.ensures j) c.args.self.factor) c.args.self.scale)) c.args.self.drift))
