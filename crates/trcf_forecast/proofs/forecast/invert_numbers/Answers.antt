-- The numbers of each block copied, then turned back. Assumes nothing.
use Rattle.trcf.proofs.LengthLaws.{dimension_known}
use native.Mathlib.Omega.{arith}
use mathlib.Core.Path.{sym, ap, ◌∙◌}
use Rattle.ranges.specs.RangeVector.{ranges, unblocked}
use Rattle.ranges.proofs.RangeSteps.{all_three}
use Rattle.trcf.specs.Types.{differences}
use Rattle.trcf.specs.Lists.{last_n}
use Rattle.trcf.specs.Settings.{transformer}
use Rattle.trcf.specs.Transformer.{inverted_forecast}
use Rattle.trcf.specs.Preprocessor.{fronts}
use Rattle.trcf.specs.View.{settings_of}
use Rattle.trcf.proofs.ExtrapolationLaws.{numbers_within, blocks_whole, and_false}
use borrow.Author.Rules.{rules}
use Rattle.trcf_forecast.proofs.forecast.invert_numbers.Goals as goal

pub copy_fronts-requires : goal.copy_fronts-requires
copy_fronts-requires c =
    let P = c.requires in
    let e = (dimension_known c.get_dimension-a.ensures (search rules)).0 in
    let w = numbers_within (settings_of c.args.head) in
    (rw e P.head_in_bounds_2.0, omega (arith, P.head_in_bounds.1, e, w), rw P.head_in_bounds.1 P.values_out_len.0)

pub copy_fronts-requires-2 : goal.copy_fronts-requires-2
copy_fronts-requires-2 c =
    let P = c.requires in
    let e = (dimension_known c.get_dimension-a.ensures (search rules)).0 in
    let w = numbers_within (settings_of c.args.head) in
    (rw e P.head_in_bounds_2.1, omega (arith, P.head_in_bounds.1, e, w), rw P.head_in_bounds.1 P.values_out_len.1)

pub copy_fronts-requires-3 : goal.copy_fronts-requires-3
copy_fronts-requires-3 c =
    let P = c.requires in
    let e = (dimension_known c.get_dimension-a.ensures (search rules)).0 in
    let w = numbers_within (settings_of c.args.head) in
    (rw e P.head_in_bounds_2.2, omega (arith, P.head_in_bounds.1, e, w), rw P.head_in_bounds.1 P.values_out_len.2)

pub invert_in_place-requires : goal.invert_in_place-requires
invert_in_place-requires c =
    let A = c.args in
    let P = c.requires in
    let v = c.copy_fronts.auto.dst ∙ P.values_out_len.0 in
    let u = c.copy_fronts-2.auto.dst ∙ P.values_out_len.1 in
    let l = c.copy_fronts-3.auto.dst ∙ P.values_out_len.2 in record {
      bounded = P.bounded;
      head_in_bounds = P.head_in_bounds;
      upper_len = (u ∙ sym v, l ∙ sym v);
      values_value = and_false (differences A.head.transformer.transform_method) _
          (ap (unblocked A.head.transformer.input_length) v ∙ blocks_whole A.h A.head.transformer.input_length A.head.shingle_size P.h_nonzero P.bounded.d_pos
          P.bounded.k_pos);
    }

pub returns : goal.returns
returns c =
    let A = c.args in
    let P = c.requires in
    let e = (dimension_known c.get_dimension-a.ensures (search rules)).0 in
    let f = P.head_in_bounds.1 in
    let L = c.invert_in_place.ensures.loans in
    all_three (c.values_out-2-1.given.1.1 (sym L.values)) (c.upper_out-2-1.given.1.1 (sym L.upper)) (c.lower_out-2-1.given.1.1 (sym L.lower))
    ∙ c.invert_in_place.ensures.after
    ∙ (λ j. inverted_forecast (transformer (settings_of A.head) 0 A.s.now) (last_n A.head.transformer.input_length A.inputs.now)
    (ranges ((c.copy_fronts.ensures ∙ (λ i. fronts (e i) (f i) A.h A.range.now.values.now)) j)
    ((c.copy_fronts-2.ensures ∙ (λ i. fronts (e i) (f i) A.h A.range.now.upper.now)) j)
    ((c.copy_fronts-3.ensures ∙ (λ i. fronts (e i) (f i) A.h A.range.now.lower.now)) j)))
