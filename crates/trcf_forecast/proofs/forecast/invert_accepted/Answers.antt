-- By the mode, over the parts in use. Assumes nothing.
use native.Mathlib.Omega.{arith}
use mathlib.Core.Path.{sym, ◌∙◌}
use lib.Seq.{length-take-le}
use Rattle.ranges.specs.RangeVector.{held}
use Rattle.trcf.specs.Preprocessor.{previous, numbers_of, times_of}
use Rattle.trcf.specs.View.{view}
use Rattle.trcf.specs.Extrapolation.{forecast, viewed}
use Rattle.trcf.proofs.LengthLaws.{statistics_known}
use Rattle.trcf.proofs.ExtrapolationLaws.{augmented_is, standard_is}
use Rattle.trcf_forecast.proofs.forecast.invert_accepted.Goals as goal

pub overflow_mul-n : goal.overflow_mul-n
overflow_mul-n c = omega arith

pub slice_bounds-invert_augmented-end : goal.slice_bounds-invert_augmented-end
slice_bounds-invert_augmented-end c =
    let e = statistics_known c.statistics_length-m.ensures c.requires.bounded.d_few in
    sym (length-take-le c.statistics_length-m.result c.args.statistics.now (rw e c.requires.readable.statistics))

pub slice_bounds-invert_augmented-end-then-is_augmented : goal.slice_bounds-invert_augmented-end-then-is_augmented
slice_bounds-invert_augmented-end-then-is_augmented c =
    sym (length-take-le _ c.args.last_shingled_input.now c.requires.readable.inputs)

pub slice_bounds-invert_augmented-end-then-is_augmented-2 : goal.slice_bounds-invert_augmented-end-then-is_augmented-2
slice_bounds-invert_augmented-end-then-is_augmented-2 c =
    sym (length-take-le _ c.args.previous_timestamps.now c.requires.readable.times)

pub invert_augmented-requires : goal.invert_augmented-requires
invert_augmented-requires c =
    let A = c.args in
    let P = c.requires in
    let e = statistics_known c.statistics_length-m.ensures P.bounded.d_few in
    let ls = length-take-le c.statistics_length-m.result A.statistics.now (rw e P.readable.statistics) in
    let lx = length-take-le _ A.last_shingled_input.now P.readable.inputs in
    let lt = length-take-le _ A.previous_timestamps.now P.readable.times in record {
      invertible = record {
        bounded = P.bounded;
        unbroken = P.unbroken;
        long = λ a. let l = P.long a in record { numbers = l.numbers; times = l.times };
        readable = record { statistics = omega (arith, ls, e); inputs = omega (arith, lx); times = omega (arith, lt) };
      };
      inputs_len = lx;
      forest_mode_value = sym c.is_augmented.ensures ∙ c.if-is_augmented.true;
    }

pub slice_bounds-invert_in_place-end : goal.slice_bounds-invert_in_place-end
slice_bounds-invert_in_place-end c =
    let e = statistics_known c.statistics_length-m.ensures c.requires.bounded.d_few in
    sym (length-take-le c.statistics_length-m.result c.args.statistics.now (rw e c.requires.readable.statistics))

pub slice_bounds-invert_in_place-end-else-is_augmented : goal.slice_bounds-invert_in_place-end-else-is_augmented
slice_bounds-invert_in_place-end-else-is_augmented c =
    sym (length-take-le _ c.args.last_shingled_input.now c.requires.readable.inputs)

pub invert_in_place-requires : goal.invert_in_place-requires
invert_in_place-requires c =
    let A = c.args in
    let P = c.requires in
    let e = statistics_known c.statistics_length-m.ensures P.bounded.d_few in
    let ls = length-take-le c.statistics_length-m.result A.statistics.now (rw e P.readable.statistics) in
    let lx = length-take-le _ A.last_shingled_input.now P.readable.inputs in record {
      bounded = P.bounded;
      head_in_bounds = (omega (arith, ls, e), lx);
      upper_len = (P.unbroken.upper, P.unbroken.lower);
      values_value = P.unbroken.cascades
          (sym c.is_augmented.ensures ∙ c.if-is_augmented.false);
    }

pub returns-then-is_augmented-clause-after : goal.returns-then-is_augmented-clause-after
unfolding numbers_of times_of previous viewed view
returns-then-is_augmented-clause-after c =
    let A = c.args in
    let I = c.invert_augmented.ensures in
    let e = statistics_known c.statistics_length-m.ensures c.requires.bounded.d_few in
    augmented_is A.head A.statistics.now A.last_shingled_input.now A.previous_timestamps.now
    (forecast (held A.range.now) (held A.range_out.now)
    (held A.times_out.now))
    _ _ (sym c.is_augmented.ensures ∙ c.if-is_augmented.true) (rw e at I.lower_out_after) (rw e at I.times_lower_out_after)

pub returns-else-is_augmented-clause-after : goal.returns-else-is_augmented-clause-after
unfolding previous viewed view
returns-else-is_augmented-clause-after c =
    let A = c.args in
    let e = statistics_known c.statistics_length-m.ensures c.requires.bounded.d_few in
    standard_is A.head A.statistics.now A.last_shingled_input.now A.previous_timestamps.now
    (forecast (held A.range.now) (held A.range_out.now)
    (held A.times_out.now))
    _ (sym c.is_augmented.ensures ∙ c.if-is_augmented.false)
    (rw e at c.invert_in_place.ensures.after)
