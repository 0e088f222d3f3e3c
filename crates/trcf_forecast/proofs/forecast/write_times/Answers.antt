-- Before the turn at i the times of the first i blocks are written. Assumes nothing.
use native.Mathlib.Omega.{arith}
use mathlib.Core.Path.{◌≡◌, refl, ap, ◌∙◌}
use Prim.Native.Nat.{◌<◌}
use lib.ListN.{length}
use Rattle.ranges.specs.RangeVector.{Range, Ranges, ranges, held, range_at, put_at}
use Rattle.ranges.proofs.RangeSteps.{same_loans, same_since}
use Rattle.trcf.specs.Steps.Inverting.{time_at, time_by, times_by}
use Rattle.trcf.proofs.LentLaws.{over_none}
use Rattle.trcf.proofs.ExtrapolationLaws.{turn_within, written_more, written_all}
use Rattle.trcf_forecast.proofs.forecast.write_times.Goals as goal

pub loop-i-init : goal.loop-i-init
loop-i-init c =
    let A = c.args in
    (over_none A.out.now.values.now, over_none A.out.now.upper.now, over_none A.out.now.lower.now, same_loans A.out.now)

pub overflow_mul-at : goal.overflow_mul-at
overflow_mul-at c =
    let A = c.args in
    let L = c.loop-i in
    let P = c.requires in
    let x = turn_within L.i (length A.out.now.values.now) A.a (length A.range.now.values.now) (omega arith) P.a_in_bounds.0 in
    let y = turn_within L.i (length A.out.now.values.now) A.a (length A.range.now.upper.now) (omega arith) P.a_in_bounds.1 in
    let z = turn_within L.i (length A.out.now.values.now) A.a (length A.range.now.lower.now) (omega arith) P.a_in_bounds.2 in
    omega (arith, P.m_lt_a, c.well_formed)

pub overflow_add-at : goal.overflow_add-at
overflow_add-at c =
    let A = c.args in
    let L = c.loop-i in
    let P = c.requires in
    let x = turn_within L.i (length A.out.now.values.now) A.a (length A.range.now.values.now) (omega arith) P.a_in_bounds.0 in
    let y = turn_within L.i (length A.out.now.values.now) A.a (length A.range.now.upper.now) (omega arith) P.a_in_bounds.1 in
    let z = turn_within L.i (length A.out.now.values.now) A.a (length A.range.now.lower.now) (omega arith) P.a_in_bounds.2 in
    omega (arith, P.m_lt_a, c.well_formed)

pub read_at-requires : goal.read_at-requires
read_at-requires c =
    let A = c.args in
    let L = c.loop-i in
    let P = c.requires in
    let n = length A.out.now.values.now in
    let x = turn_within L.i n A.a (length A.range.now.values.now) (omega arith) P.a_in_bounds.0 in
    let y = turn_within L.i n A.a (length A.range.now.upper.now) (omega arith) P.a_in_bounds.1 in
    let z = turn_within L.i n A.a (length A.range.now.lower.now) (omega arith) P.a_in_bounds.2 in
    (omega (arith, P.m_lt_a), omega (arith, P.m_lt_a), omega (arith, P.m_lt_a))

pub write_at-requires : goal.write_at-requires
write_at-requires c =
    let S = c.loop-i.invariant.3 in
    let P = c.requires.upper_out_len in
    (omega (arith, S.values_length), omega (arith, P.0, S.upper_length), omega (arith, P.1, S.lower_length))

pub loop-i-preserved : goal.loop-i-preserved
unfolding range_at put_at
loop-i-preserved c =
    let A = c.args in
    let L = c.loop-i in
    let P = c.requires in
    let R = c.invert.ensures ∙ ap (time_by A.clock.gap A.clock.factor A.clock.scale A.clock.drift) c.read_at.ensures in
    let W = c.write_at.ensures.after in
    let i : L.i < length A.out.now.values.now = omega arith in (
      ap (λ (v : Ranges). v.values) W ∙ written_more A.out.now.values.now _ L.i L.out.values.now _ i L.invariant.0 (ap (λ (q : Range). q.value) R),
      ap (λ (v : Ranges). v.upper) W ∙ written_more A.out.now.upper.now _ L.i L.out.upper.now _ (omega (arith, P.upper_out_len.0)) L.invariant.1 (ap (λ (q : Range). q.upper) R),
      ap (λ (v : Ranges). v.lower) W ∙ written_more A.out.now.lower.now _ L.i L.out.lower.now _ (omega (arith, P.upper_out_len.1)) L.invariant.2 (ap (λ (q : Range). q.lower) R),
      same_since L.invariant.3 c.write_at.ensures.loans,
    )

pub returns-clause-after : goal.returns-clause-after
unfolding times_by
returns-clause-after c =
    let A = c.args in
    let L = c.loop-i in
    let P = c.requires in
    let n = length A.out.now.values.now in
    let e : L.i ≡ n = omega arith in
    let v = held A.range.now in
    λ j. ranges
    (written_all A.out.now.values.now (λ i. (time_at A.clock.gap A.clock.factor A.clock.scale A.clock.drift A.a A.m v i).value) L.i n L.out.values.now e refl L.invariant.0 j)
    (written_all A.out.now.upper.now (λ i. (time_at A.clock.gap A.clock.factor A.clock.scale A.clock.drift A.a A.m v i).upper) L.i n L.out.upper.now e P.upper_out_len.0 L.invariant.1 j)
    (written_all A.out.now.lower.now (λ i. (time_at A.clock.gap A.clock.factor A.clock.scale A.clock.drift A.a A.m v i).lower) L.i n L.out.lower.now e P.upper_out_len.1 L.invariant.2 j)
