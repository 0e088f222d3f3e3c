-- `trcf_point::drain::drain_due` meets its contract: by its callees' promises and the laws of lists. Assumes nothing.
use Rattle.trcf.proofs.LengthLaws.{dimension_known, statistics_known}
use native.Mathlib.Omega.{arith}
use mathlib.Core.Path.{◌≡◌, sym, ap, ◌∙◌}
use Prim.Native.Nat.{ℕ, ◌*◌, ◌<◌}
use native.Mathlib.Nat.{mul-le-mul, le_refl}
use mathlib.Core.Bool.{true, false}
use borrow.Author.Tests.{not-true, not-false}
use lib.Seq.{length-take-le}
use Rattle.trcf.specs.Calls.{due}
use Rattle.trcf.specs.Preprocessor.{facts}
use Rattle.trcf.specs.View.{settings_of, view, lent}
use Rattle.trcf.proofs.StateLaws.{undrained, undrained_is, count_room, internal_room, due_some, drained_out_at, drained_view_at}
use Rattle.trcf_point.proofs.drain.drain_due.Goals as goal

pub returns-then-not-is_due : goal.returns-then-not-is_due
unfolding due facts view
returns-then-not-is_due c =
    let a = c.args in
    let h = a.head in
    let l = lent a.statistics.now a.last_shingled_input.now a.last_shingled_point.now a.previous_timestamps.now a.initial_values.now a.initial_timestamps.now in
    let f = c.requires.ready.fitted in
    let e : due (settings_of h) (facts (view h l)) ≡ false = sym c.is_due.ensures ∙ not-true _ c.if-not-is_due.true-raw in
    record { initial_timestamps_after = undrained h l f e; initial_timestamps_after_2 = undrained_is h l f e }

pub slice_bounds-drain_all-end-2 : goal.slice_bounds-drain_all-end-2
slice_bounds-drain_all-end-2 c =
    rw (statistics_known c.statistics_length.ensures c.requires.ready.bounded.d_few) (sym (length-take-le _ _ c.requires.ready.fitted.roomy.in_statistics))

pub drain_all-requires : goal.drain_all-requires
unfolding due facts view
drain_all-requires c =
    let a = c.args in
    let h = a.head in
    let l = lent a.statistics.now a.last_shingled_input.now a.last_shingled_point.now a.previous_timestamps.now a.initial_values.now a.initial_timestamps.now in
    let f = c.requires.ready.fitted in
    let r = f.roomy in
    let s = statistics_known c.statistics_length.ensures c.requires.ready.bounded.d_few in
    let k = dimension_known c.get_dimension-m.ensures c.requires.ready.bounded in
    let m = mul-le-mul f.in_room (le_refl h.transformer.input_length) in
    let e : due (settings_of h) (facts (view h l)) ≡ true = sym c.is_due.ensures ∙ not-false _ c.if-not-is_due.false-raw in
    let u = count_room h l c.requires.initial_timestamps_value e in
    let n = length-take-le h.initial_len a.initial_timestamps.now (omega (arith, f.in_room, r)) in
    let v = length-take-le (h.initial_len * h.transformer.input_length) a.initial_values.now (omega (arith, m, r)) in
    record {
      bounded = c.requires.ready.bounded;
      exact = record {
        all_statistics = rw s (length-take-le _ _ r.in_statistics);
        all_input = length-take-le _ _ r.in_input;
        all_times = length-take-le _ _ r.in_times;
      };
      points_len = length-take-le _ _ (omega (arith, k, r.in_point)) ∙ k.0;
      values_len = v ∙ ap (λ (i : ℕ). i * h.transformer.input_length) (sym n);
      stamps_bound = omega (arith, n, u, f.few);
      stamps_nonzero = due_some h l e;
    }

pub overflow_add-head : goal.overflow_add-head
unfolding due facts view
overflow_add-head c =
    let a = c.args in
    let h = a.head in
    let l = lent a.statistics.now a.last_shingled_input.now a.last_shingled_point.now a.previous_timestamps.now a.initial_values.now a.initial_timestamps.now in
    let e : due (settings_of h) (facts (view h l)) ≡ true = sym c.is_due.ensures ∙ not-false _ c.if-not-is_due.false-raw in
    let u = count_room h l c.requires.initial_timestamps_value e in
    omega (arith, c.requires.ready.fitted.few)

pub overflow_add-head-2 : goal.overflow_add-head-2
unfolding due facts view
overflow_add-head-2 c =
    let a = c.args in
    let h = a.head in
    let l = lent a.statistics.now a.last_shingled_input.now a.last_shingled_point.now a.previous_timestamps.now a.initial_values.now a.initial_timestamps.now in
    let e : due (settings_of h) (facts (view h l)) ≡ true = sym c.is_due.ensures ∙ not-false _ c.if-not-is_due.false-raw in
    let u = internal_room h l c.requires.initial_timestamps_value e in
    omega (arith, c.requires.ready.fitted.few)

pub returns : goal.returns
unfolding due facts view
returns c =
    let a = c.args in
    let h = a.head in
    let l = lent a.statistics.now a.last_shingled_input.now a.last_shingled_point.now a.previous_timestamps.now a.initial_values.now a.initial_timestamps.now in
    let f = c.requires.ready.fitted in
    let r = f.roomy in
    let n = statistics_known c.statistics_length.ensures c.requires.ready.bounded.d_few in
    let m = dimension_known c.get_dimension-m.ensures c.requires.ready.bounded in
    let e : due (settings_of h) (facts (view h l)) ≡ true = sym c.is_due.ensures ∙ not-false _ c.if-not-is_due.false-raw in
    let K = c.drain_all.auto in
    let w : 0 < h.initial_len = omega (arith, due_some h l e, length-take-le h.initial_len a.initial_timestamps.now (omega (arith, f.in_room, r))) in
    let ls = K.s ∙ rw n (length-take-le _ _ r.in_statistics) in
    let lx = K.inputs ∙ length-take-le _ _ r.in_input in
    let lp = K.points ∙ length-take-le _ _ (omega (arith, m, r.in_point)) in
    let lt = K.times ∙ length-take-le _ _ r.in_times in
    let q = rw n at c.drain_all.ensures in
    record {
      initial_timestamps_after = rw (c.with_counts.ensures, n) (drained_out_at h l f w e c.get_dimension-m.result m.0 _ _ _ _ ls lx lp lt q);
      initial_timestamps_after_2 = rw (c.with_counts.ensures, n) (drained_view_at h l f w e c.get_dimension-m.result m.0 _ _ _ _ ls lx lp lt q);
    }
