-- `trcf_point::point::shingled_point` meets its contract: by its callees' promises and the laws of outcomes. Assumes nothing.
use mathlib.Core.Path.{◌≡◌, refl, sym, ap, ◌∙◌}
use mathlib.Core.List.{List}
use Prim.Native.Nat.{ℕ, ◌*◌}
use lib.ListN.{length, take}
use lib.Ieee.{Float}
use Rattle.refusal.specs.Lent.{over}
use Rattle.trcf.specs.Lists.{last_n, shift_in}
use Rattle.trcf.specs.Settings.{dimension}
use Rattle.trcf.specs.Calls.{newest}
use Rattle.trcf.specs.Preprocessor.{facts, time_base, preceding, point_of, reading, transformed_after, statistics_length, drained}
use Rattle.trcf.specs.View.{lent, view, settings_of, time_base_of, Outcome}
use Rattle.trcf.specs.declared.head.Preprocessor.{Preprocessor}
use Rattle.trcf.proofs.NumberLaws.{point_err, number_zero}
use Rattle.trcf.proofs.RowLaws.{pointing, past_room, past_long}
use Rattle.trcf.proofs.WayLaws.{point_stays, point_holds, point_goes, room_point}
use Rattle.trcf_point.proofs.point.shingled_point.Goals as goal

-- the point that is written, its base the state's
based : (h : Preprocessor) (st xs ps : List Float) (ts : List ℕ) (vs : List Float) (vt : List ℕ) (x out o : List Float) (t b : ℕ) → b ≡ time_base_of h ts vt
    → o ≡ over out (shift_in (take (dimension (settings_of h)) ps) (transformed_after (settings_of h) (take (statistics_length (settings_of h)) st) h.values_seen
    (reading (last_n h.transformer.input_length (take (h.transformer.input_length * h.shingle_size) xs)) b) (reading x t)))
    → o ≡ over out (point_of (view h (lent st xs ps ts vs vt)) (reading x t))
unfolding point_of view preceding time_base time_base_of newest facts
based h st xs ps ts vs vt x out o t b e f =
    f
    ∙ ap (λ (n : ℕ). over out (shift_in (take (dimension (settings_of h)) ps) (transformed_after (settings_of h) (take (statistics_length (settings_of h)) st) h.values_seen
    (reading (last_n h.transformer.input_length (take (h.transformer.input_length * h.shingle_size) xs)) n) (reading x t)))) e

pub returns-in_err-shingled_point_row : goal.returns-in_err-shingled_point_row
returns-in_err-shingled_point_row c =
    let a = c.args in
    let l = lent a.statistics.now a.last_shingled_input.now a.last_shingled_point.now a.previous_timestamps.now a.initial_values.now a.initial_timestamps.now in
    point_err _ a.head l _ _ c.from_residual.ensures.1
    ∙ point_stays a.head l a.input.now a.timestamp a.output.now _ c.in_err-shingled_point_row.ensures.value (number_zero _)

pub returns-then-is_waiting : goal.returns-then-is_waiting
returns-then-is_waiting c =
    let a = c.args in
    let l = lent a.statistics.now a.last_shingled_input.now a.last_shingled_point.now a.previous_timestamps.now a.initial_values.now a.initial_timestamps.now in
    let o = c.in_ok-shingled_point_row.ensures in
    point_holds a.head l a.input.now a.timestamp a.output.now 0 o.value refl c.is_waiting.result c.is_waiting.ensures
    c.if-is_waiting.true o.ready.fitted

pub drain_due-next-requires : goal.drain_due-next-requires
drain_due-next-requires c =
    let a = c.args in
    let h = a.head in
    let l = lent a.statistics.now a.last_shingled_input.now a.last_shingled_point.now a.previous_timestamps.now a.initial_values.now a.initial_timestamps.now in
    let o = c.in_ok-shingled_point_row.ensures in
    let q = pointing h l a.input.now a.timestamp a.output.now (sym o.value) in
    record { ready = o.ready; initial_timestamps_value = past_room h l (length a.output.now) q.past (sym c.is_waiting.ensures ∙ c.if-is_waiting.false) }

pub write_point-requires : goal.write_point-requires
write_point-requires c =
    let a = c.args in
    let l = lent a.statistics.now a.last_shingled_input.now a.last_shingled_point.now a.previous_timestamps.now a.initial_values.now a.initial_timestamps.now in
    let o = c.in_ok-shingled_point_row.ensures in
    let d = c.drain_due-next in
    let q = pointing a.head l a.input.now a.timestamp a.output.now (sym o.value) in
    let g = past_long a.head l (length a.output.now) q.past (sym c.is_waiting.ensures ∙ c.if-is_waiting.false) in
    let r =
    room_point a.head l (length a.input.now) (length a.output.now) _ _ _ _ (drained (view a.head l)) d.result (ap (λ (u : Outcome). u.head) d.ensures.initial_timestamps_after)
    o.ready d.auto.statistics d.auto.last_shingled_input d.auto.last_shingled_point d.auto.previous_timestamps q.whole g in
    record {
      bounded = r.0;
      head_in_bounds = r.1.0;
      shingle_size_in_bounds = r.1.1.0;
      head_in_bounds_2 = r.1.1.1.0;
      input_len = r.1.1.1.1.1.0;
      head_in_bounds_3 = r.1.1.1.1.1.1;
    }

pub returns : goal.returns
returns c =
    let at-is-waiting = c.is_waiting in
    let a = c.args in
    let l = lent a.statistics.now a.last_shingled_input.now a.last_shingled_point.now a.previous_timestamps.now a.initial_values.now a.initial_timestamps.now in
    let o = c.in_ok-shingled_point_row.ensures in
    let d = c.drain_due-next in
    point_goes a.head l a.input.now a.timestamp a.output.now 0 o.value refl at-is-waiting.result at-is-waiting.ensures
    c.if-is_waiting.false _ _ _ _ d.ensures.initial_timestamps_after d.ensures.initial_timestamps_after_2
    (based _ _ _ _ _ _ _ a.input.now a.output.now _ a.timestamp _ c.time_base-base.ensures
    c.write_point.ensures)
