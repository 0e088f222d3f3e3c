-- `trcf_calls::build::build` meets its contract: by its callees' promises and the laws of outcomes. Assumes nothing.
use native.Mathlib.Omega.{arith}
use mathlib.Core.Path.{◌≡◌, sym, ap, ◌∙◌}
use Prim.Native.Nat.{ℕ}
use lib.Seq.{length-take-le}
use Rattle.trcf.specs.Settings.{dimension}
use Rattle.trcf.specs.View.{settings_from, settings_of, lent, lent_row, no_head, outcome, Bounded}
use Rattle.trcf.specs.declared.head.Preprocessor.{Preprocessor}
use Rattle.trcf.proofs.LengthLaws.{dimension_known, held_known, statistics_known}
use Rattle.trcf.proofs.NumberLaws.{head_err, number_zero}
use Rattle.trcf.proofs.OutcomeLaws.{build_refused, build_short, build_done, bounded_from, dimension_from}
use Rattle.trcf_calls.proofs.build.build.Goals as goal

pub returns-in_err-settings_row : goal.returns-in_err-settings_row
returns-in_err-settings_row c =
    let a = c.args in
    let s = settings_from a.builder a.weights.now a.codes.now in
    let l = lent a.statistics.now a.last_shingled_input.now a.last_shingled_point.now a.previous_timestamps.now a.initial_values.now a.initial_timestamps.now in
    let e = c.in_err-settings_row.ensures.value in
    head_err _ no_head l _ c.from_residual.ensures.1 ∙ ap (λ (n : ℕ). outcome n no_head l) e ∙ build_refused s l (λ z. number_zero _ (e ∙ z))

pub head_from-head-requires : goal.head_from-head-requires
head_from-head-requires c =
    let r = c.in_ok-settings_row.ensures.accepted in
    record { weights_len_bound = omega (arith, r.bounded, r.weighted); codes_len_bound = omega (arith, r.bounded, r.coded) }

pub returns-in_err-held_row : goal.returns-in_err-held_row
returns-in_err-held_row c =
    let a = c.args in
    let s = settings_from a.builder a.weights.now a.codes.now in
    let l = lent a.statistics.now a.last_shingled_input.now a.last_shingled_point.now a.previous_timestamps.now a.initial_values.now a.initial_timestamps.now in
    let h = c.head_from-head.ensures in
    let f = held_known c.in_err-held_row.ensures.value (rw h (bounded_from s c.in_ok-settings_row.ensures.accepted.bounded)) ∙ ap (λ (h : Preprocessor). lent_row h l) h in
    head_err _ no_head l _ c.from_residual-in_err-held_row.ensures.1 ∙ ap (λ (n : ℕ). outcome n no_head l) f
    ∙ build_short s l (sym c.in_ok-settings_row.ensures.value) (λ z. number_zero _ (f ∙ z))

pub slice_bounds-fill-end-2 : goal.slice_bounds-fill-end-2
slice_bounds-fill-end-2 c =
    let a = c.args in
    let s = settings_from a.builder a.weights.now a.codes.now in
    let e = statistics_known c.statistics_length.ensures (bounded_from s c.in_ok-settings_row.ensures.accepted.bounded).d_few in
    let r = (rw c.head_from-head.ensures at c.in_ok-held_row.ensures.ready.fitted).roomy in
    sym (length-take-le c.statistics_length.result a.statistics.now (rw e r.in_statistics))

pub returns : goal.returns
returns c =
    let a = c.args in
    let s = settings_from a.builder a.weights.now a.codes.now in
    let l = lent a.statistics.now a.last_shingled_input.now a.last_shingled_point.now a.previous_timestamps.now a.initial_values.now a.initial_timestamps.now in
    let h = c.head_from-head.ensures in
    let b : Bounded (settings_of c.head_from-head.result) = rw h (bounded_from s c.in_ok-settings_row.ensures.accepted.bounded) in
    let f = held_known c.in_ok-held_row.ensures.value b ∙ ap (λ (h : Preprocessor). lent_row h l) h in
    let r = (rw h at c.in_ok-held_row.ensures.ready.fitted).roomy in
    let n : c.get_dimension-n.result ≡ dimension s = (rw h at (dimension_known c.get_dimension-n.ensures b).0) ∙ dimension_from s in
    let e = statistics_known c.statistics_length.ensures (bounded_from s c.in_ok-settings_row.ensures.accepted.bounded).d_few in
    rw (c.fill.ensures.after (λ y e. e), c.fill-2.ensures.after (λ y e. e), c.fill-3.ensures.after (λ y e. e), c.fill-4.ensures.after (λ y e. e), n, e, h)
    (build_done s l (sym c.in_ok-settings_row.ensures.value) (sym f) r.in_statistics r.in_input (rw (← dimension_from s) r.in_point) r.in_times)
