-- The head's row, those of the input, those of the learn, or that of what is lent.
use mir.Syntax.{w32}
use mir.ValLaws.{to_z-of_z}
use Rattle.std.proofs.Common.{◌≡◌, length, sym, ap, ◌∙◌}
use Rattle.std.specs.Prelude.{is_some}
use Rattle.trcf.specs.Calls.{rows, post_process, finite}
use Rattle.trcf.specs.Preprocessor.{facts}
use Rattle.trcf.specs.View.{lent_by, settings_of, view, learn_call, back_of, newest_of}
use Rattle.trcf.specs.Steps.Rows.{input_row, learning_row}
use Rattle.trcf.proofs.NumberLaws.{refused_first}
use Rattle.trcf.proofs.LearnLaws.{post_rows}
use Rattle.trcf_rows.specs.Given.{list_in}
use Rattle.trcf_rows.proofs.RowWays.{head_refuses, call_refuses, lent_decides, lent_ready, not_ok}
use Rattle.trcf_rows.proofs.learn_rows.post_process_row.Goals as goal

pub returns-in_err-head_row : goal.returns-in_err-head_row
returns-in_err-head_row c =
    let a = c.args in
    let h = a.head in
    let l = lent_by a.lists in
    let p =
    post_process (learn_call a.input.now a.timestamp (is_some a.y) (list_in a.y) (is_some a.expected) (list_in a.expected) a.grade a.relative_index
    a.deviations_out.now a.past_out.now a.expected_out.now) in
    let x = c.from_residual.ensures.1 in
    record { value = head_refuses h l p _ _ x c.in_err-head_row.ensures.value; ready = not_ok _ _ _ x }

pub returns-in_err-input_row : goal.returns-in_err-input_row
returns-in_err-input_row c =
    let a = c.args in
    let h = a.head in
    let l = lent_by a.lists in
    let p =
    post_process (learn_call a.input.now a.timestamp (is_some a.y) (list_in a.y) (is_some a.expected) (list_in a.expected) a.grade a.relative_index
    a.deviations_out.now a.past_out.now a.expected_out.now) in
    let o = c.in_ok-head_row.ensures in
    let v = post_rows h l a.input.now a.timestamp (is_some a.y) (list_in a.y) (is_some a.expected) (list_in a.expected) a.grade a.relative_index
    a.deviations_out.now a.past_out.now a.expected_out.now o.bounded.k_pos o.bounded.k_few in
    let f = c.all_finite-finite.ensures in
    let n = c.newest_of-newest.ensures in
    let i : input_row h (length a.input.now) c.all_finite-finite.result c.newest_of-newest.result a.timestamp
    ≡ input_row h (length a.input.now) (finite a.input.now) (newest_of h l.previous_timestamps l.initial_timestamps) a.timestamp = λ j. input_row h (length a.input.now) (f j) (n j) a.timestamp in
    let x = c.from_residual-in_err-input_row.ensures.1 in
    let q = refused_first _ _ _ (c.in_err-input_row.ensures ∙ i) ∙ v in
    record { value = call_refuses h l p _ _ x o.value q; ready = not_ok _ _ _ x }

pub returns-in_err-learning_row : goal.returns-in_err-learning_row
returns-in_err-learning_row c =
    let a = c.args in
    let h = a.head in
    let l = lent_by a.lists in
    let p =
    post_process (learn_call a.input.now a.timestamp (is_some a.y) (list_in a.y) (is_some a.expected) (list_in a.expected) a.grade a.relative_index
    a.deviations_out.now a.past_out.now a.expected_out.now) in
    let o = c.in_ok-head_row.ensures in
    let v = post_rows h l a.input.now a.timestamp (is_some a.y) (list_in a.y) (is_some a.expected) (list_in a.expected) a.grade a.relative_index
    a.deviations_out.now a.past_out.now a.expected_out.now o.bounded.k_pos o.bounded.k_few in
    let f = c.all_finite-finite.ensures in
    let n = c.newest_of-newest.ensures in
    let i : input_row h (length a.input.now) c.all_finite-finite.result c.newest_of-newest.result a.timestamp
    ≡ input_row h (length a.input.now) (finite a.input.now) (newest_of h l.previous_timestamps l.initial_timestamps) a.timestamp = λ j. input_row h (length a.input.now) (f j) (n j) a.timestamp in
    let m = c.places_back-back.ensures ∙ ap back_of (to_z-of_z w32 a.relative_index c.ranges.relative_index) in
    let g : learning_row h (length (list_in a.y)) (is_some a.y) (length (list_in a.expected)) (is_some a.expected) a.grade c.places_back-back.result
    (length a.deviations_out.now) (length a.past_out.now) (length a.expected_out.now)
    ≡ learning_row h (length (list_in a.y)) (is_some a.y) (length (list_in a.expected)) (is_some a.expected) a.grade (back_of a.relative_index)
    (length a.deviations_out.now) (length a.past_out.now) (length a.expected_out.now) =
    λ j. learning_row h (length (list_in a.y)) (is_some a.y) (length (list_in a.expected)) (is_some a.expected) a.grade (m j) (length a.deviations_out.now)
    (length a.past_out.now) (length a.expected_out.now) in
    let x = c.from_residual-in_err-learning_row.ensures.1 in
    record { value = call_refuses h l p _ _ x o.value (rw (← v, sym (c.in_ok-input_row.ensures ∙ i)) (c.in_err-learning_row.ensures ∙ g)); ready = not_ok _ _ _ x }

pub returns : goal.returns
returns c =
    let a = c.args in
    let h = a.head in
    let l = lent_by a.lists in
    let p =
    post_process (learn_call a.input.now a.timestamp (is_some a.y) (list_in a.y) (is_some a.expected) (list_in a.expected) a.grade a.relative_index
    a.deviations_out.now a.past_out.now a.expected_out.now) in
    let o = c.in_ok-head_row.ensures in
    let v = post_rows h l a.input.now a.timestamp (is_some a.y) (list_in a.y) (is_some a.expected) (list_in a.expected) a.grade a.relative_index
    a.deviations_out.now a.past_out.now a.expected_out.now o.bounded.k_pos o.bounded.k_few in
    let f = c.all_finite-finite.ensures in
    let n = c.newest_of-newest.ensures in
    let i : input_row h (length a.input.now) c.all_finite-finite.result c.newest_of-newest.result a.timestamp
    ≡ input_row h (length a.input.now) (finite a.input.now) (newest_of h l.previous_timestamps l.initial_timestamps) a.timestamp = λ j. input_row h (length a.input.now) (f j) (n j) a.timestamp in
    let m = c.places_back-back.ensures ∙ ap back_of (to_z-of_z w32 a.relative_index c.ranges.relative_index) in
    let g : learning_row h (length (list_in a.y)) (is_some a.y) (length (list_in a.expected)) (is_some a.expected) a.grade c.places_back-back.result
    (length a.deviations_out.now) (length a.past_out.now) (length a.expected_out.now)
    ≡ learning_row h (length (list_in a.y)) (is_some a.y) (length (list_in a.expected)) (is_some a.expected) a.grade (back_of a.relative_index)
    (length a.deviations_out.now) (length a.past_out.now) (length a.expected_out.now) =
    λ j. learning_row h (length (list_in a.y)) (is_some a.y) (length (list_in a.expected)) (is_some a.expected) a.grade (m j) (length a.deviations_out.now)
    (length a.past_out.now) (length a.expected_out.now) in
    let d = c.lengths.ensures in
    let z = c.lent_row.ensures in
    let q : rows (settings_of h) (facts (view h l)) p ≡ 0 = rw (← v, sym (c.in_ok-input_row.ensures ∙ i)) (sym (c.in_ok-learning_row.ensures ∙ g)) in
    record { value = lent_decides h l p _ _ o.value q d z; ready = lent_ready h l _ _ o.bounded d z }
