-- `snapshot_save::save::save_held` meets its contract. Assumes nothing.
use Rattle.snapshot.proofs.SaveLaws.{wide_of, past_is, held_by, few, few_wide, few_values, saved_not, saved_unformed, saved_is}
use Rattle.trcf.specs.Types.{augments}
use Rattle.trcf.proofs.LengthLaws.{statistics_known}
use Rattle.trcf.specs.View.{lent_by, lengths_of, view}
use Rattle.trcf.specs.declared.head.LentLengths.{LentLengths}
use Rattle.trcf.specs.declared.head.LentLists.{LentLists}
use Rattle.trcf.specs.declared.head.Preprocessor.{Preprocessor}
use Rattle.snapshot.specs.Save.{past, unformed}
use lib.Seq.{length-take-le}
use mathlib.Core.Path.{◌≡◌, ap, sym, ◌∙◌}
use native.Mathlib.Omega.{arith}
use native.Mathlib.Nat.{le_of_eq}
use mathlib.Core.Bool.{Bool, ◌||◌}
use Prim.Native.Nat.{ℕ, ◌+◌, ◌*◌}
use lib.Dec.{ltb}
use lib.ListN.{length, take}
use Rattle.snapshot_save.proofs.save.save_held.Goals as goal

-- what is asked of the lengths is asked of what is lent
past_lent : (h : Preprocessor) (w : ℕ) (v : LentLists) {r : Bool} {m : LentLengths} → m ≡ lengths_of (lent_by v)
    → r ≡ (ltb 1 w || past h.transformer.input_length h.shingle_size w h.initial_len m.statistics m.last_shingled_input m.last_shingled_point
    m.previous_timestamps m.initial_values m.initial_timestamps)
    → r ≡ (ltb 1 w || past h.transformer.input_length h.shingle_size w h.initial_len (length v.statistics.now) (length v.last_shingled_input.now)
    (length v.last_shingled_point.now) (length v.previous_timestamps.now) (length v.initial_values.now) (length v.initial_timestamps.now))
past_lent h w v e q =
    q
    ∙ ap (λ (m : LentLengths).
    ltb 1 w || past h.transformer.input_length h.shingle_size w h.initial_len m.statistics m.last_shingled_input m.last_shingled_point
    m.previous_timestamps m.initial_values m.initial_timestamps) e

pub is_past-requires : goal.is_past-requires
is_past-requires c = tt

pub returns-then-is_past : goal.returns-then-is_past
returns-then-is_past c =
    let a = c.args in
    let w = c.time_width-w in
    let l = lent_by a.lists in
    let p = past_lent a.head w.result a.lists c.lengths.ensures c.is_past.ensures in
    saved_not a.head l w.result w.ensures a.out.now (sym (past_is (augments a.head.forest_mode) w.ensures p) ∙ c.if-is_past.true)

pub slice_bounds-statistics-end : goal.slice_bounds-statistics-end
slice_bounds-statistics-end c =
    let a = c.args in
    let w = c.time_width-w in
    let l = lent_by a.lists in
    let p = past_lent a.head w.result a.lists c.lengths.ensures c.is_past.ensures in
    let H = held_by a.head l w.result w.ensures p c.if-is_past.false in
    let z = statistics_known c.statistics_length.ensures H.d_few in
    rw z (sym (length-take-le _ _ H.in_statistics))

pub overflow_mul-last_shingled_input : goal.overflow_mul-last_shingled_input
overflow_mul-last_shingled_input c =
    let a = c.args in
    let w = c.time_width-w in
    let l = lent_by a.lists in
    let p = past_lent a.head w.result a.lists c.lengths.ensures c.is_past.ensures in
    let H = held_by a.head l w.result w.ensures p c.if-is_past.false in
    omega (arith, few _ _ H.d_few H.k_few)

pub slice_bounds-last_shingled_input-end : goal.slice_bounds-last_shingled_input-end
slice_bounds-last_shingled_input-end c =
    let a = c.args in
    let w = c.time_width-w in
    let l = lent_by a.lists in
    let p = past_lent a.head w.result a.lists c.lengths.ensures c.is_past.ensures in
    let H = held_by a.head l w.result w.ensures p c.if-is_past.false in
    let h = a.head in
    sym (length-take-le (h.transformer.input_length * h.shingle_size) a.lists.last_shingled_input.now H.in_input)

pub overflow_add-last_shingled_point : goal.overflow_add-last_shingled_point
overflow_add-last_shingled_point c =
    let a = c.args in
    let w = c.time_width-w in
    let l = lent_by a.lists in
    let p = past_lent a.head w.result a.lists c.lengths.ensures c.is_past.ensures in
    let o = wide_of (augments a.head.forest_mode) w.result w.ensures in
    let H = held_by a.head l w.result w.ensures p c.if-is_past.false in
    omega (arith, o, H.d_few)

pub overflow_mul-last_shingled_point : goal.overflow_mul-last_shingled_point
overflow_mul-last_shingled_point c =
    let a = c.args in
    let w = c.time_width-w in
    let l = lent_by a.lists in
    let p = past_lent a.head w.result a.lists c.lengths.ensures c.is_past.ensures in
    let o = wide_of (augments a.head.forest_mode) w.result w.ensures in
    let H = held_by a.head l w.result w.ensures p c.if-is_past.false in
    let h = a.head in
    let d = h.transformer.input_length in
    omega (arith, few_wide (d + w.result) h.shingle_size (omega (arith, o, H.d_few)) H.k_few)

pub slice_bounds-last_shingled_point-end : goal.slice_bounds-last_shingled_point-end
slice_bounds-last_shingled_point-end c =
    let a = c.args in
    let w = c.time_width-w in
    let l = lent_by a.lists in
    let p = past_lent a.head w.result a.lists c.lengths.ensures c.is_past.ensures in
    let H = held_by a.head l w.result w.ensures p c.if-is_past.false in
    let h = a.head in
    let d = h.transformer.input_length in
    sym (length-take-le ((d + w.result) * h.shingle_size) a.lists.last_shingled_point.now H.in_point)

pub slice_bounds-previous_timestamps-end : goal.slice_bounds-previous_timestamps-end
slice_bounds-previous_timestamps-end c =
    let a = c.args in
    let w = c.time_width-w in
    let l = lent_by a.lists in
    let p = past_lent a.head w.result a.lists c.lengths.ensures c.is_past.ensures in
    let H = held_by a.head l w.result w.ensures p c.if-is_past.false in
    sym (length-take-le a.head.shingle_size a.lists.previous_timestamps.now H.in_times)

pub overflow_mul-initial_values : goal.overflow_mul-initial_values
overflow_mul-initial_values c =
    let a = c.args in
    let w = c.time_width-w in
    let l = lent_by a.lists in
    let p = past_lent a.head w.result a.lists c.lengths.ensures c.is_past.ensures in
    let H = held_by a.head l w.result w.ensures p c.if-is_past.false in
    omega (arith, few_values _ _ H.n_few H.d_few)

pub slice_bounds-initial_values-end : goal.slice_bounds-initial_values-end
slice_bounds-initial_values-end c =
    let a = c.args in
    let w = c.time_width-w in
    let l = lent_by a.lists in
    let p = past_lent a.head w.result a.lists c.lengths.ensures c.is_past.ensures in
    let H = held_by a.head l w.result w.ensures p c.if-is_past.false in
    let h = a.head in
    sym (length-take-le (h.initial_len * h.transformer.input_length) a.lists.initial_values.now H.in_values)

pub slice_bounds-initial_timestamps-end : goal.slice_bounds-initial_timestamps-end
slice_bounds-initial_timestamps-end c =
    let a = c.args in
    let w = c.time_width-w in
    let l = lent_by a.lists in
    let p = past_lent a.head w.result a.lists c.lengths.ensures c.is_past.ensures in
    let H = held_by a.head l w.result w.ensures p c.if-is_past.false in
    sym (length-take-le a.head.initial_len a.lists.initial_timestamps.now H.in_initial)

pub returns-then-is_unformed : goal.returns-then-is_unformed
unfolding unformed view
returns-then-is_unformed c =
    let a = c.args in
    let w = c.time_width-w in
    let l = lent_by a.lists in
    let p = past_lent a.head w.result a.lists c.lengths.ensures c.is_past.ensures in
    saved_unformed a.head l w.result w.ensures a.out.now (sym (past_is (augments a.head.forest_mode) w.ensures p) ∙ c.if-is_past.false)
    (sym c.is_unformed.ensures ∙ c.if-is_unformed.true)

pub save_parts-requires : goal.save_parts-requires
save_parts-requires c =
    let a = c.args in
    let w = c.time_width-w in
    let l = lent_by a.lists in
    let p = past_lent a.head w.result a.lists c.lengths.ensures c.is_past.ensures in
    let o = wide_of (augments a.head.forest_mode) w.result w.ensures in
    let H = held_by a.head l w.result w.ensures p c.if-is_past.false in
    let h = a.head in
    let d = h.transformer.input_length in
    let k = h.shingle_size in
    let z = statistics_known c.statistics_length.ensures H.d_few in
    let l₁ : length (take c.statistics_length.result a.lists.statistics.now) ≡ 3 * (5 * d + 5) = rw z (length-take-le _ _ H.in_statistics) in
    let l₂ = length-take-le (d * k) a.lists.last_shingled_input.now H.in_input in
    let l₃ = length-take-le ((d + w.result) * k) a.lists.last_shingled_point.now H.in_point in
    let l₄ = length-take-le k a.lists.previous_timestamps.now H.in_times in
    let l₅ = length-take-le (h.initial_len * d) a.lists.initial_values.now H.in_values in
    let l₆ = length-take-le h.initial_len a.lists.initial_timestamps.now H.in_initial in
    record {
      input_length_bound = H.d_few;
      statistics_len_bound = omega (arith, l₁, H.d_few);
      input_len_bound = omega (arith, l₂, few d k H.d_few H.k_few);
      point_len_bound = omega (arith, l₃, few_wide (d + w.result) k (omega (arith, o, H.d_few)) H.k_few);
      times_len_bound = omega (arith, l₄, H.k_few);
      initial_len_bound = omega (arith, l₆, H.n_few);
      input_length_in_bounds = le_of_eq (ap (λ (x : ℕ). x * d) l₆ ∙ sym l₅);
    }

pub returns : goal.returns
unfolding unformed view
returns c =
    let a = c.args in
    let w = c.time_width-w in
    let l = lent_by a.lists in
    let p = past_lent a.head w.result a.lists c.lengths.ensures c.is_past.ensures in
    let H = held_by a.head l w.result w.ensures p c.if-is_past.false in
    let z = statistics_known c.statistics_length.ensures H.d_few in
    saved_is a.head l w.result w.ensures a.out.now _ (sym (past_is (augments a.head.forest_mode) w.ensures p) ∙ c.if-is_past.false)
    (sym c.is_unformed.ensures ∙ c.if-is_unformed.false) (rw z at c.save_parts.ensures)
