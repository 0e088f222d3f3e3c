-- `snapshot_restore::restore::fill` meets its contract. Assumes nothing.
use Prim.Native.Nat.{ℕ, ◌+◌, ◌*◌, ◌≤◌}
use native.Mathlib.Omega.{arith}
use mathlib.Core.Path.{◌≡◌, sym, ap, ◌∙◌, subst}
use lib.ListN.{length, take}
use lib.Seq.{length-take-le}
use Rattle.trcf.specs.Types.{augments}
use Rattle.trcf.proofs.LengthLaws.{statistics_known}
use Rattle.trcf.specs.View.{lent, settings_of, written_over}
use Rattle.snapshot.specs.Steps.Runs.{counts_in, Body, body, parts, initial_lists, state_from}
use Rattle.snapshot.proofs.SaveLaws.{few_wide, wide_of}
use Rattle.snapshot.proofs.BodyLaws.{dimension_is, over_back, laid_is}
use Rattle.snapshot_restore.proofs.restore.fill.Goals as goal

pub overflow_add-w : goal.overflow_add-w
overflow_add-w c =
    let w = wide_of (augments c.args.head.forest_mode) c.time_width.result c.time_width.ensures in
    omega (arith, w, c.requires.d_few)

pub slice_bounds-fill_body-end : goal.slice_bounds-fill_body-end
slice_bounds-fill_body-end c =
    rw (statistics_known c.statistics_length.ensures c.requires.d_few) c.requires.in_statistics

pub slice_bounds-fill_body-end-2 : goal.slice_bounds-fill_body-end-2
slice_bounds-fill_body-end-2 c =
    rw (statistics_known c.statistics_length.ensures c.requires.d_few) (sym (length-take-le _ _ c.requires.in_statistics))

pub slice_bounds-fill_body-end-4 : goal.slice_bounds-fill_body-end-4
slice_bounds-fill_body-end-4 c =
    let args = c.args in
    sym (length-take-le (args.head.transformer.input_length * args.head.shingle_size) args.last_shingled_input.now c.requires.in_input)

pub overflow_mul-w : goal.overflow_mul-w
overflow_mul-w c =
    let args = c.args in
    let pre = c.requires in
    let time-width-at = c.time_width in
    let w = wide_of (augments args.head.forest_mode) time-width-at.result time-width-at.ensures in
    let h = few_wide (args.head.transformer.input_length + time-width-at.result) args.head.shingle_size (omega (arith, w, pre.d_few)) pre.k_few in
    omega (arith, h)

pub slice_bounds-fill_body-end-5 : goal.slice_bounds-fill_body-end-5
slice_bounds-fill_body-end-5 c =
    let args = c.args in
    let time-width-at = c.time_width in
    subst (λ (m : ℕ). m ≤ length args.last_shingled_point.now) (sym (dimension_is (settings_of args.head) time-width-at.result time-width-at.ensures))
    c.requires.in_point

pub slice_bounds-fill_body-end-6 : goal.slice_bounds-fill_body-end-6
slice_bounds-fill_body-end-6 c =
    let args = c.args in
    let time-width-at = c.time_width in
    sym (length-take-le ((args.head.transformer.input_length + time-width-at.result) * args.head.shingle_size) args.last_shingled_point.now
    (subst (λ (m : ℕ). m ≤ length args.last_shingled_point.now) (sym (dimension_is (settings_of args.head) time-width-at.result time-width-at.ensures))
    c.requires.in_point))

pub slice_bounds-fill_body-end-8 : goal.slice_bounds-fill_body-end-8
slice_bounds-fill_body-end-8 c =
    let args = c.args in
    sym (length-take-le args.head.shingle_size args.previous_timestamps.now c.requires.in_times)

pub slice_bounds-fill_body-end-10 : goal.slice_bounds-fill_body-end-10
slice_bounds-fill_body-end-10 c =
    let args = c.args in
    sym (length-take-le (args.n * args.head.transformer.input_length) args.initial_values.now c.requires.in_values)

pub slice_bounds-fill_body-end-12 : goal.slice_bounds-fill_body-end-12
slice_bounds-fill_body-end-12 c =
    let args = c.args in
    sym (length-take-le args.n args.initial_timestamps.now c.requires.in_initial)

pub fill_body-requires : goal.fill_body-requires
fill_body-requires c =
    let args = c.args in
    let pre = c.requires in
    let time-width-at = c.time_width in
    let a = args in
    let q = pre in
    let d = a.head.transformer.input_length in
    let s : length (take c.statistics_length.result a.statistics.now) ≡ 3 * (5 * d + 5) =
    rw (statistics_known c.statistics_length.ensures q.d_few) (length-take-le _ _ q.in_statistics) in record {
      input_length_bound = q.d_few;
      n_bound = q.n_few;
      statistics_len = s ∙ omega arith;
      input_len = length-take-le (d * a.head.shingle_size) a.last_shingled_input.now q.in_input;
      point_len = length-take-le ((d + time-width-at.result) * a.head.shingle_size) a.last_shingled_point.now
          (subst (λ (m : ℕ). m ≤ length args.last_shingled_point.now) (sym (dimension_is (settings_of args.head) time-width-at.result time-width-at.ensures)) pre.in_point) ∙
          dimension_is (settings_of a.head) time-width-at.result time-width-at.ensures;
      times_len = length-take-le a.head.shingle_size a.previous_timestamps.now q.in_times;
      values_len = length-take-le (a.n * d) a.initial_values.now q.in_values;
      initial_times_len = length-take-le a.n a.initial_timestamps.now q.in_initial;
    }

pub returns : goal.returns
returns c = λ b z e.
    let args = c.args in
    let pre = c.requires in
    let time-width-at = c.time_width in
    let a = args in
    let q = pre in
    let d = a.head.transformer.input_length in
    let s = settings_of a.head in
    let k = counts_in a.head in
    let l = lent a.statistics.now a.last_shingled_input.now a.last_shingled_point.now a.previous_timestamps.now a.initial_values.now a.initial_timestamps.now in
    let G = c.fill_body in
    let p = parts G.new.statistics G.new.input G.new.point G.new.times in
    let i = initial_lists G.new.values G.new.initial_times in
    let z₁ = statistics_known c.statistics_length.ensures q.d_few in
    rw z₁ (laid_is s k (body p i) l _ _ _ _ _ _
    (over_back a.statistics.now p.statistics (3 * (5 * d + 5)) q.in_statistics (rw z₁ at c.statistics-1.given.0))
    (over_back a.last_shingled_input.now p.input (d * a.head.shingle_size) q.in_input c.last_shingled_input-1.given.0)
    (over_back a.last_shingled_point.now p.point ((d + time-width-at.result) * a.head.shingle_size)
    (subst (λ (m : ℕ). m ≤ length args.last_shingled_point.now) (sym (dimension_is (settings_of args.head) time-width-at.result time-width-at.ensures)) pre.in_point)
    c.last_shingled_point-1.given.0)
    (over_back a.previous_timestamps.now p.times a.head.shingle_size q.in_times c.previous_timestamps-1.given.0)
    (over_back a.initial_values.now i.values (a.n * d) q.in_values c.initial_values-1.given.0)
    (over_back a.initial_timestamps.now i.times a.n q.in_initial c.initial_timestamps-1.given.0)
    ∙ ap (λ (x : Body). written_over (state_from s k x) l) (G.ensures b z e))
