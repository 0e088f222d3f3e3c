-- `trcf_learn::post_process::post_process` meets its contract: by its callees' promises and the laws of outcomes. Assumes nothing.
use mir.Val.{to_z, of_z}
use mathlib.Core.Path.{◌≡◌, refl, sym, ap, subst, ◌∙◌}
use mathlib.Core.Bool.{true, false, ◌&&◌}
use mathlib.Core.List.{List}
use mir.Syntax.{w32}
use mir.ValLaws.{to_z-of_z}
use denote.Bor.{Bor}
use lib.Ieee.{Float, lt}
use lib.ListN.{length}
use Rattle.std.specs.Prelude.{Option, Some, None, is_some}
use Rattle.trcf.specs.Transformer.{zero32}
use Rattle.trcf.specs.Steps.Learning.{Learnable, learned_parts}
use Rattle.trcf.proofs.WayLaws.{way_refused, way_held, way_none, way_learnt, room_held, room_learnt}
use Rattle.trcf_rows.specs.Given.{list_in}
use Rattle.trcf_learn.proofs.post_process.post_process.Goals as goal

none_given : (y : Option (Bor (List Float))) → ((p : Bor (List Float)) → y ≡ Some p → ⊥) → is_some y ≡ false
none_given None n = refl
none_given (Some p) n = absurd (n p refl)

pub returns-in_err-post_process_row : goal.returns-in_err-post_process_row
returns-in_err-post_process_row c =
    let a = c.args in
    way_refused a.head a.statistics.now a.last_shingled_input.now a.last_shingled_point.now a.previous_timestamps.now a.initial_values.now
    a.initial_timestamps.now a.input.now a.timestamp (is_some a.y) (list_in a.y) (is_some a.expected) (list_in a.expected) a.grade a.relative_index
    (to_z w32 (of_z w32 a.relative_index)) a.deviations_out.now a.past_out.now a.expected_out.now (to_z-of_z w32 a.relative_index c.ranges.relative_index) _
    c.in_err-post_process_row.ensures.value _ _ c.from_residual.ensures.1 refl

pub post_process_waiting-requires : goal.post_process_waiting-requires
post_process_waiting-requires c =
    let a = c.args in
    let r = room_held a.head a.statistics.now a.last_shingled_input.now a.last_shingled_point.now a.previous_timestamps.now a.initial_values.now
    a.initial_timestamps.now a.input.now a.timestamp (is_some a.y) (list_in a.y) (is_some a.expected) (list_in a.expected) a.grade a.relative_index
    (to_z w32 (of_z w32 a.relative_index)) a.deviations_out.now a.past_out.now a.expected_out.now (to_z-of_z w32 a.relative_index c.ranges.relative_index) 0
    c.in_ok-post_process_row.ensures.value (λ z. c.in_ok-post_process_row.ensures.ready) refl
    c.is_waiting.result c.is_waiting.ensures c.if-is_waiting.true in
    record {
      bounded = r.0;
      head_in_bounds = r.1.0;
      input_len = r.1.1.0;
      initial_len_value = r.1.1.1.0;
      values_seen_bound = r.1.1.1.1.0;
      input_length_in_bounds = r.1.1.1.1.1.0;
      start_normalization_in_bounds = r.1.1.1.1.1.1.0;
      head_in_bounds_2 = r.1.1.1.1.1.1.1;
    }

pub returns-then-is_waiting : goal.returns-then-is_waiting
returns-then-is_waiting c =
    let a = c.args in
    let w = c.post_process_waiting in
    way_held a.head a.statistics.now a.last_shingled_input.now a.last_shingled_point.now a.previous_timestamps.now a.initial_values.now
    a.initial_timestamps.now a.input.now a.timestamp (is_some a.y) (list_in a.y) (is_some a.expected) (list_in a.expected) a.grade a.relative_index
    (to_z w32 (of_z w32 a.relative_index)) a.deviations_out.now a.past_out.now a.expected_out.now (to_z-of_z w32 a.relative_index c.ranges.relative_index) 0
    c.in_ok-post_process_row.ensures.value (λ z. c.in_ok-post_process_row.ensures.ready) refl
    c.is_waiting.result c.is_waiting.ensures c.if-is_waiting.true w.result _ _ _
    w.ensures.value w.ensures.initial_values_after w.ensures.initial_timestamps_after w.ensures.deviations_out_after

pub returns-in_default : goal.returns-in_default
returns-in_default c =
    let a = c.args in
    let has : is_some a.y ≡ false = none_given a.y c.in_default.not-Some in
    way_none a.head a.statistics.now a.last_shingled_input.now a.last_shingled_point.now a.previous_timestamps.now a.initial_values.now
    a.initial_timestamps.now a.input.now a.timestamp (is_some a.y) (list_in a.y) (is_some a.expected) (list_in a.expected) a.grade a.relative_index
    (to_z w32 (of_z w32 a.relative_index)) a.deviations_out.now a.past_out.now a.expected_out.now (to_z-of_z w32 a.relative_index c.ranges.relative_index) 0
    c.in_ok-post_process_row.ensures.value (λ z. c.in_ok-post_process_row.ensures.ready) refl
    c.is_waiting.result c.is_waiting.ensures c.if-is_waiting.false has

pub post_process_learning-requires : goal.post_process_learning-requires
post_process_learning-requires c =
    let a = c.args in
    let has : is_some a.y ≡ true = ap (λ (y : Option (Bor (List Float))). is_some y) c.in-Some.is in
    let r = room_learnt a.head a.statistics.now a.last_shingled_input.now a.last_shingled_point.now a.previous_timestamps.now a.initial_values.now
    a.initial_timestamps.now a.input.now a.timestamp (is_some a.y) (list_in a.y) (is_some a.expected) (list_in a.expected) a.grade a.relative_index
    (to_z w32 (of_z w32 a.relative_index)) a.deviations_out.now a.past_out.now a.expected_out.now (to_z-of_z w32 a.relative_index c.ranges.relative_index) 0
    c.in_ok-post_process_row.ensures.value (λ z. c.in_ok-post_process_row.ensures.ready) refl
    c.is_waiting.result c.is_waiting.ensures c.if-is_waiting.false has c.places_back-back.result c.places_back-back.ensures in
    record {
      bounded = r.0;
      head_in_bounds = r.1.0;
      shingle_size_in_bounds = r.1.1.0;
      head_in_bounds_2 = r.1.1.1.0;
      shingle_size_in_bounds_2 = r.1.1.1.1.0;
      input_len = r.1.1.1.1.1.0;
      learnable = subst
          (λ (y : Option (Bor (List Float))). Learnable a.head (length (list_in y)) (length (list_in a.expected)) (is_some a.expected) a.grade c.places_back-back.result
          (length a.deviations_out.now) (length a.past_out.now) (length a.expected_out.now)) c.in-Some.is r.1.1.1.1.1.1;
    }

pub returns : goal.returns
returns c =
    let a = c.args in
    let has : is_some a.y ≡ true = ap (λ (y : Option (Bor (List Float))). is_some y) c.in-Some.is in
    way_learnt a.head a.statistics.now a.last_shingled_input.now a.last_shingled_point.now a.previous_timestamps.now a.initial_values.now
    a.initial_timestamps.now a.input.now a.timestamp (is_some a.y) (list_in a.y) (is_some a.expected) (list_in a.expected) a.grade a.relative_index
    (to_z w32 (of_z w32 a.relative_index)) a.deviations_out.now a.past_out.now a.expected_out.now (to_z-of_z w32 a.relative_index c.ranges.relative_index) 0
    c.in_ok-post_process_row.ensures.value (λ z. c.in_ok-post_process_row.ensures.ready) refl
    c.is_waiting.result c.is_waiting.ensures c.if-is_waiting.false has c.places_back-back.result c.places_back-back.ensures _
    (c.post_process_learning.ensures ∙ (λ j. learned_parts a.head a.statistics.now a.last_shingled_input.now a.last_shingled_point.now a.previous_timestamps.now a.input.now
    a.timestamp (list_in (sym c.in-Some.is j)) (list_in a.expected) (lt zero32 a.grade && is_some a.expected) c.places_back-back.result a.deviations_out.now a.past_out.now
    a.expected_out.now))
