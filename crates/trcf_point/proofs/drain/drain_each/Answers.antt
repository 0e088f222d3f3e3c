-- `trcf_point::drain::drain_each` meets its contract: by its loop's invariant. Assumes nothing.
use native.Mathlib.Nat.{add-zero}
use Prim.Native.Nat.{◌+◌, ◌≤◌, ◌<◌}
use mathlib.Core.Path.{◌≡◌, refl, sym, ap, ◌∙◌}
use lib.ListN.{length}
use native.Mathlib.Omega.{arith}
use Rattle.trcf.specs.Preprocessor.{blocks, drain_each}
use Rattle.trcf.specs.Steps.Learning.{shingling}
use Rattle.trcf.proofs.DrainLaws.{left_all, left_none, drain_again}
use Rattle.trcf_point.proofs.drain.drain_each.Goals as goal

pub loop-i-init : goal.loop-i-init
loop-i-init c =
    let a = c.args in
    let d = a.head.transformer.input_length in
    let v = a.values.now in
    let ts = a.stamps.now in (
      refl,
      refl,
      refl,
      (λ j. drain_each (shingling a.head (a.head.transformer.count + length ts) c.feed_initial.new.s a.inputs.now a.points.now a.times.now
          (sym (add-zero a.head.internal_timestamp) j)) (sym (left_all d v ts) j)),
    )

pub feed_initial-requires : goal.feed_initial-requires
feed_initial-requires c =
    let q = c.requires in
    record { bounded = q.bounded; s_len = q.exact.all_statistics; stamps_bound = q.stamps_bound; input_length_in_bounds = omega (arith, q.values_len) }

pub drain_turn-requires : goal.drain_turn-requires
drain_turn-requires c =
    let q = c.requires in
    let L = c.loop-i in
    record {
      bounded = q.bounded;
      exact = record {
        all_statistics = omega (arith, c.feed_initial.auto, q.exact);
        all_input = omega (arith, L.invariant.0, q.exact);
        all_times = omega (arith, L.invariant.2, q.exact);
      };
      points_len = omega (arith, L.invariant.1, q.points_len);
      values_len = q.values_len;
      i_in_bounds = omega arith;
    }

pub loop-i-preserved : goal.loop-i-preserved
loop-i-preserved c =
    let a = c.args in
    let ts = a.stamps.now in
    let L = c.loop-i in
    let D = c.drain_turn in
    let S = c.feed_initial.new.s in
    let more : L.i < length ts = omega arith in (
      omega (arith, D.auto, L.invariant.0),
      omega (arith, D.auto, L.invariant.1),
      omega (arith, D.auto, L.invariant.2),
      L.invariant.3 ∙ drain_again a.head (a.head.transformer.count + length ts) S L.inputs L.points L.times S _ _ _ a.head.transformer.input_length a.values.now ts L.i
          a.head.internal_timestamp more refl D.ensures.inputs_after D.ensures.points_after D.ensures.times_after,
    )

pub returns : goal.returns
returns c =
    let a = c.args in
    let d = a.head.transformer.input_length in
    let v = a.values.now in
    let ts = a.stamps.now in
    let n = a.head.transformer.count + length ts in
    let L = c.loop-i in
    let S = c.feed_initial.new.s in
    let h : length ts ≤ L.i = omega arith in
    let e : L.i ≡ length ts = omega arith in
    sym ((λ j. drain_each (shingling a.head n (sym c.feed_initial.ensures j) a.inputs.now a.points.now a.times.now a.head.internal_timestamp) (blocks d v ts))
    ∙ L.invariant.3
    ∙ ap (drain_each (shingling a.head n S L.inputs L.points L.times (a.head.internal_timestamp + L.i))) (left_none d v ts L.i h)
    ∙ (λ j. shingling a.head n S L.inputs L.points L.times (a.head.internal_timestamp + e j)))
