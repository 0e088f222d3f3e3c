-- `trcf_point::drain::feed_initial` meets its contract: by its loop's invariant. Assumes nothing.
use Prim.Native.Nat.{◌+◌, ◌-◌, ◌≤◌, ◌<◌}
use native.Mathlib.Nat.{add-zero}
use mathlib.Core.Path.{refl, sym, ap, ◌∙◌}
use lib.ListN.{length}
use native.Mathlib.Omega.{arith}
use Rattle.trcf.specs.Preprocessor.{feed_all}
use Rattle.trcf.specs.View.{settings_of}
use Rattle.trcf.specs.Steps.Learning.{reading_at}
use Rattle.trcf.proofs.DrainLaws.{left_all, left_none, feed_again}
use Rattle.trcf_point.proofs.drain.feed_initial.Goals as goal

pub loop-i-init : goal.loop-i-init
loop-i-init c =
    let a = c.args in
    let d = a.head.transformer.input_length in
    let v = a.values.now in
    let ts = a.stamps.now in
    (refl, (λ j. feed_all (settings_of a.head) (sym (add-zero a.head.transformer.count) j) a.s.now (reading_at d v ts 0) (sym (left_all d v ts) j)))

pub loop-i-preserved : goal.loop-i-preserved
loop-i-preserved c =
    let a = c.args in
    let L = c.loop-i in
    let h : L.i < length a.stamps.now = omega arith in (
      omega (arith, c.feed_turn.auto, L.invariant),
      L.invariant.1 ∙ feed_again (settings_of a.head) a.head.transformer.input_length a.values.now a.stamps.now L.i a.head.transformer.count L.s _ h
          c.feed_turn.ensures,
    )

pub returns : goal.returns
returns c =
    let a = c.args in
    let d = a.head.transformer.input_length in
    let v = a.values.now in
    let ts = a.stamps.now in
    let L = c.loop-i in
    let h : length ts ≤ L.i = omega arith in
    sym (L.invariant.1 ∙ ap (feed_all (settings_of a.head) (a.head.transformer.count + L.i) L.s (reading_at d v ts (L.i - 1))) (left_none d v ts L.i h))
